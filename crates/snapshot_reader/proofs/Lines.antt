-- The lines of the actions of a snapshot are among its lines.
use Rattle.std.proofs.Common.{◌≡◌, ◌++◌, Bool, true, List, [], ◌∷◌, flat_map, length, map, nat_le, refl, sym, ◌∙◌}
use Rattle.std.proofs.lemmas.Bool.{and_from, and_parts}
use Rattle.std.proofs.lemmas.List.Folds.{list_all-append}
use Rattle.gov_actions.specs.declared.action.Proposal.{Proposal}
use Rattle.gov_model.specs.Snapshot.{Snapshot}
use Rattle.tx_records.specs.declared.limits.TheConstants.{LINE_LIMIT}
use Rattle.text_forms.specs.Lines.{are_short_lines, joined}
use Rattle.text_forms.specs.Snapshots.{action_words, expiry_words, pool_account_words}
use Rattle.text_forms.specs.of_text_model.ParamLines.{param_lines}
use Rattle.text_forms.specs.of_text_model.StateLines.{account_words, committee_lines, proposal_lines, words_of_constitution, words_of_enacted}
use Rattle.text_forms.specs.of_text_model.Words.{Text}
use Rattle.certificate_model.specs.Certificate.{certificate_words, mark_words, snapshot_lines, whole_proposal_lines}

abbrev is_short : List Text → Bool
is_short words = nat_le (length (joined words)) LINE_LIMIT

short_parts : (xs ys : List (List Text)) → are_short_lines (xs ++ ys) ≡ true → (are_short_lines xs ≡ true) × (are_short_lines ys ≡ true)
short_parts xs ys h = and_parts (are_short_lines xs) (are_short_lines ys) (sym (list_all-append is_short xs ys) ∙ h)

actions_of : (ps : List Proposal) → are_short_lines (flat_map whole_proposal_lines ps) ≡ true → are_short_lines (map action_words ps) ≡ true
actions_of [] h = refl
actions_of (p ∷ ps) h =
    let both = short_parts (whole_proposal_lines p) (flat_map whole_proposal_lines ps) h in
    let action = (short_parts (proposal_lines p) (action_words p ∷ []) both.0).1 in
    and_from (is_short (action_words p)) (are_short_lines (map action_words ps)) (and_parts (is_short (action_words p)) true action).0 (actions_of ps both.1)

pub actions_short : (f : Snapshot) → are_short_lines (snapshot_lines f) ≡ true → are_short_lines (map action_words f.proposals) ≡ true
actions_short f h =
    let before : List (List Text) =
    certificate_words f ∷ words_of_constitution f.start.document f.start.script ∷ [] ++ committee_lines f.start.committee f.hot ++ words_of_enacted f.start.last ∷ [] ++ param_lines f.start.params
    ++ map expiry_words f.dreps ++ map (pool_account_words f) f.mark ++ map mark_words f.mark ++ map account_words f.entries in
    actions_of f.proposals (short_parts before (flat_map whole_proposal_lines f.proposals) h).1
