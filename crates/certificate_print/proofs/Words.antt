-- Each line of a certificate has a word, so that without its number it is its words.
use Rattle.std.proofs.Common.{◌≡◌, List, [], ◌∷◌, ◌++◌, Option, Some, None, drop, flat_map, map, ap, sym, ◌∙◌, append_assoc}
use Rattle.std.proofs.lemmas.List.{append-nil}
use Rattle.bare_lines.specs.Bare.{bare}
use Rattle.bare_lines.proofs.Joined.{bare_joined}
use Rattle.certificate_model.specs.Certificate.{certificate_words, mark_words, snapshot_lines, whole_proposal_lines}
use Rattle.gathered_lines.specs.Through.{HaveWords}
use Rattle.gathered_lines.proofs.Gathering.{have_both}
use Rattle.gov_actions.specs.declared.action.Proposal.{Proposal}
use Rattle.gov_actions.specs.declared.state.Committee.{Committee}
use Rattle.gov_actions.specs.declared.state.HotState.{HotState}
use Rattle.gov_ids.specs.declared.Credential.{Credential}
use Rattle.gov_model.specs.Sides.{members_of}
use Rattle.gov_model.specs.Snapshot.{Snapshot}
use Rattle.pparams.specs.declared.Params.{Params}
use Rattle.report.specs.Taking.{with_lines}
use Rattle.text_forms.specs.Lines.{joined}
use Rattle.text_forms.specs.Snapshots.{action_words, expiry_words, pool_account_words}
use Rattle.text_model.specs.ParamLines.{param_lines}
use Rattle.text_model.specs.StateLines.{account_words, committee_lines, committee_words, hot_outside, hot_words, member_among, proposal_lines, vote_words, words_of_constitution, words_of_enacted}
use Rattle.text_model.specs.Words.{Text, line_of}

-- lines that are printed from items have words, if each has
have_each : {A : Type 0} (words : A → List Text) → ((x : A) → HaveWords (words x ∷ [])) → (xs : List A) → HaveWords (map words xs)
have_each words each [] = tt
have_each words each (x ∷ xs) = have_both (words x ∷ []) (map words xs) (each x) (have_each words each xs)

committee_has : (c : Option Committee) → HaveWords (committee_words c ∷ [])
committee_has None = tt
committee_has (Some c) = tt

committee_have : (c : Option Committee) (hot : List (Credential × HotState)) → HaveWords (committee_lines c hot)
committee_have c hot =
    have_both (committee_words c ∷ [] ++ map (member_among hot) (members_of c)) (map hot_words (hot_outside c hot))
    (have_both (committee_words c ∷ []) (map (member_among hot) (members_of c)) (committee_has c) (have_each (member_among hot) (λ m. tt) (members_of c)))
    (have_each hot_words (λ h. tt) (hot_outside c hot))

params_have : (p : Params) → HaveWords (param_lines p)
params_have p = tt

proposal_has : (p : Proposal) → HaveWords (whole_proposal_lines p)
proposal_has p = have_both (proposal_lines p) (action_words p ∷ []) (have_each (vote_words p) (λ v. tt) p.votes) tt

proposals_have : (ps : List Proposal) → HaveWords (flat_map whole_proposal_lines ps)
proposals_have [] = tt
proposals_have (p ∷ ps) = have_both (whole_proposal_lines p) (flat_map whole_proposal_lines ps) (proposal_has p) (proposals_have ps)

pub snapshot_has : (f : Snapshot) → HaveWords (snapshot_lines f)
snapshot_has f =
    let head : List (List Text) = certificate_words f ∷ words_of_constitution f.start.document f.start.script ∷ [] in
    let governed : List (List Text) = head ++ committee_lines f.start.committee f.hot in
    let enacted : List (List Text) = governed ++ words_of_enacted f.start.last ∷ [] in
    let params : List (List Text) = enacted ++ param_lines f.start.params in
    let dreps : List (List Text) = params ++ map expiry_words f.dreps in
    let pools : List (List Text) = dreps ++ map (pool_account_words f) f.mark in
    let mark : List (List Text) = pools ++ map mark_words f.mark in
    let entries : List (List Text) = mark ++ map account_words f.entries in
    let in_head : HaveWords governed = have_both head (committee_lines f.start.committee f.hot) tt (committee_have f.start.committee f.hot) in
    let in_enacted : HaveWords enacted = have_both governed (words_of_enacted f.start.last ∷ []) in_head tt in
    let in_params : HaveWords params = have_both enacted (param_lines f.start.params) in_enacted (params_have f.start.params) in
    let in_dreps : HaveWords dreps = have_both params (map expiry_words f.dreps) in_params (have_each expiry_words (λ d. tt) f.dreps) in
    let in_pools : HaveWords pools = have_both dreps (map (pool_account_words f) f.mark) in_dreps (have_each (pool_account_words f) (λ m. tt) f.mark) in
    let in_mark : HaveWords mark = have_both pools (map mark_words f.mark) in_pools (have_each mark_words (λ m. tt) f.mark) in
    let in_entries : HaveWords entries = have_both mark (map account_words f.entries) in_mark (have_each account_words (λ e. tt) f.entries) in
    have_both entries (flat_map whole_proposal_lines f.proposals) in_entries (proposals_have f.proposals)

-- lines that are kept without their numbers are their words
pub bare_kept : (kept : List Text) (lines : List (List Text)) → HaveWords lines → with_lines (bare (λ (ls : List Text) line. ls ++ line ∷ [])) 0 kept lines ≡ kept ++ map (λ words. joined words ++ 10 ∷ []) lines
bare_kept kept [] have = sym (append-nil kept)
bare_kept kept ([] ∷ lines) have = absurd have
bare_kept kept ((word ∷ words) ∷ lines) have =
    bare_kept (kept ++ drop 2 (line_of 0 (word ∷ words)) ∷ []) lines have
    ∙ append_assoc kept (drop 2 (line_of 0 (word ∷ words)) ∷ []) (map (λ ws. joined ws ++ 10 ∷ []) lines)
    ∙ ap (λ (line : Text). kept ++ line ∷ map (λ ws. joined ws ++ 10 ∷ []) lines) (bare_joined word words)
