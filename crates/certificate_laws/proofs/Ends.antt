-- A certificate has one line `end`, its last, and so certificates are cut there.
use Rattle.std.proofs.Common.{◌≡◌, ◌||◌, List, [], ◌∷◌, ◌++◌, Bool, false, Option, Some, None, append_assoc, ap, codes, cond, flat_map, map, refl, subst, zip, ◌∙◌}
use Rattle.std.specs.List.{AllByRecursion, list_any, onto_first}
use Rattle.std.proofs.lemmas.Bool.{or_parts}
use Rattle.byte_lines.specs.Pieces.{lines_of}
use Rattle.certificate_model.specs.Certificate.{certificate_lines, certificate_words, claim_of_proposal, mark_words, snapshot_lines, verdict_words, whole_proposal_lines}
use Rattle.certificate_model.specs.Checked.{is_end}
use Rattle.certificate_model.specs.Fits.{Fits}
use Rattle.certificate_model.specs.Parts.{part_words, parts_of}
use Rattle.check_loop.specs.Texts.{texts_in}
use Rattle.checkpoint_text_laws.proofs.Certificate.{certificate_is_cut}
use Rattle.line_giver.specs.OfList.{whole_lines}
use Rattle.text_forms.specs.Lines.{joined, joined_lines}
use Rattle.text_forms.specs.Snapshots.{action_words, expiry_words, pool_account_words}
use Rattle.text_forms.specs.of_gov_model.Ratified.{order_of, ratified_of, tallies_of}
use Rattle.text_forms.specs.of_gov_model.Sides.{members_of}
use Rattle.text_forms.specs.of_gov_model.Snapshot.{Snapshot}
use Rattle.text_forms.specs.of_run_model.Report.{stakes_of}
use Rattle.text_forms.specs.of_text_model.EpochLines.{stake_words}
use Rattle.text_forms.specs.of_text_model.ParamLines.{param_lines}
use Rattle.text_forms.specs.of_text_model.StateLines.{account_words, committee_words, hot_outside, hot_words, member_among, proposal_words, vote_words, words_of_constitution, words_of_enacted}
use Rattle.text_forms.specs.of_text_model.Words.{Text}
use Rattle.text_forms.specs.of_text_model.of_gov_actions.declared.action.Proposal.{Proposal}
use Rattle.text_forms.specs.of_text_model.of_gov_actions.declared.state.Committee.{Committee}
use Rattle.text_forms.specs.of_text_model.of_gov_actions.declared.tally.Tally.{Tally}
use Rattle.text_forms.specs.of_tx_records.declared.limits.TheConstants.{LINE_LIMIT}
use Rattle.certificate_laws.specs.Laws.{certificates_text, texts_of_bytes}

-- ---- lines before the end

-- a line of words is `end`
abbrev ends : List Text → Bool
ends ws = is_end (joined ws)

-- no line is `end`
record Others (lines : List (List Text)) : Type 0 where
  none : list_any ends lines ≡ false

none_both : (xs ys : List (List Text)) → list_any ends xs ≡ false → list_any ends ys ≡ false → list_any ends (xs ++ ys) ≡ false
none_both [] ys h k = k
none_both (x ∷ xs) ys h k =
    let parts = or_parts (ends x) (list_any ends xs) h in
    ap (λ b. b || list_any ends (xs ++ ys)) parts.0 ∙ none_both xs ys parts.1 k

-- and more lines
infixl 10 ◌⊕◌
◌⊕◌ : {xs ys : List (List Text)} → Others xs → Others ys → Others (xs ++ ys)
◌⊕◌ {xs} {ys} h k = record { none = none_both xs ys h.none k.none }

-- lines that show their first words
shown : (lines : List (List Text)) → list_any ends lines ≡ false → Others lines
shown lines h = record { none = h }

module _ {A : Type 0} where
  -- a line for each item
  lines_map : (f : A → List Text) → ((x : A) → ends (f x) ≡ false) → (xs : List A) → Others (map f xs)
  lines_map f each [] = record { none = refl }
  lines_map f each (x ∷ xs) = shown (f x ∷ []) (ap (λ b. b || false) (each x)) ⊕ lines_map f each xs

  -- lines for each item
  lines_flat : (f : A → List (List Text)) → ((x : A) → Others (f x)) → (xs : List A) → Others (flat_map f xs)
  lines_flat f each [] = record { none = refl }
  lines_flat f each (x ∷ xs) = each x ⊕ lines_flat f each xs

committee_other : (o : Option Committee) → list_any ends (committee_words o ∷ []) ≡ false
committee_other None = refl
committee_other (Some c) = refl

whole_are : (p : Proposal) → Others (whole_proposal_lines p)
whole_are p = shown (proposal_words p ∷ []) refl ⊕ lines_map (vote_words p) (λ v. refl) p.votes ⊕ shown (action_words p ∷ []) refl

snapshot_are : (f : Snapshot) → Others (snapshot_lines f)
snapshot_are f =
    shown (certificate_words f ∷ words_of_constitution f.start.document f.start.script ∷ []) refl
    ⊕ (shown (committee_words f.start.committee ∷ []) (committee_other f.start.committee)
    ⊕ lines_map (member_among f.hot) (λ m. refl) (members_of f.start.committee)
    ⊕ lines_map hot_words (λ e. refl) (hot_outside f.start.committee f.hot))
    ⊕ shown (words_of_enacted f.start.last ∷ []) refl
    ⊕ shown (param_lines f.start.params) refl
    ⊕ lines_map expiry_words (λ d. refl) f.dreps
    ⊕ lines_map (pool_account_words f) (λ m. refl) f.mark
    ⊕ lines_map mark_words (λ m. refl) f.mark
    ⊕ lines_map account_words (λ e. refl) f.entries
    ⊕ lines_flat whole_proposal_lines whole_are f.proposals

claim_are : (f : Snapshot) (x : Proposal × Tally) → Others (claim_of_proposal f x)
claim_are f (a, t) = lines_map (part_words a) (λ p. refl) (parts_of f a) ⊕ shown (verdict_words t ∷ []) refl

-- the results without the last line
abbrev results : Snapshot → List (List Text)
results f = map stake_words (stakes_of f) ++ flat_map (claim_of_proposal f) (zip (order_of f) (tallies_of f (ratified_of f)))

results_are : (f : Snapshot) → Others (results f)
results_are f = lines_map stake_words (λ s. refl) (stakes_of f) ⊕ lines_flat (claim_of_proposal f) (claim_are f) (zip (order_of f) (tallies_of f (ratified_of f)))

-- ---- certificates

-- the last line
abbrev last : List (List Text)
last = (codes "end" ∷ []) ∷ []

-- such lines and `end` are one text
one_text : (lines : List (List Text)) (more : List (Option Text)) → list_any ends lines ≡ false
    → texts_in (whole_lines (joined_lines (lines ++ last)) ++ more) ≡ whole_lines (joined_lines (lines ++ last)) ∷ texts_in more
one_text [] more h = refl
one_text (ws ∷ lines) more h =
    let parts = or_parts (ends ws) (list_any ends lines) h in
    let rest : List (List (Option Text)) = texts_in (whole_lines (joined_lines (lines ++ last)) ++ more) in
    ap (λ b. cond b ((Some (joined ws) ∷ []) ∷ rest) (onto_first (Some (joined ws)) rest)) parts.0
    ∙ ap (onto_first (Some (joined ws))) (one_text lines more parts.1)

-- the lines of a certificate
abbrev pub lines_as_given : Snapshot → List (Option Text)
lines_as_given f = whole_lines (joined_lines (certificate_lines f))

one_certificate : (f : Snapshot) (more : List (Option Text)) → texts_in (lines_as_given f ++ more) ≡ lines_as_given f ∷ texts_in more
one_certificate f more =
    subst (λ (lines : List (List Text)). texts_in (whole_lines (joined_lines lines) ++ more) ≡ whole_lines (joined_lines lines) ∷ texts_in more)
    (append_assoc (snapshot_lines f) (results f) last)
    (one_text (snapshot_lines f ++ results f) more (snapshot_are f ⊕ results_are f).none)

pub cut_all : (fs : List Snapshot) → AllByRecursion Fits fs → texts_of_bytes (certificates_text fs) ≡ map lines_as_given fs
cut_all [] h = refl
cut_all (f ∷ fs) h =
    ap texts_in (certificate_is_cut f (certificates_text fs) h.0.short)
    ∙ one_certificate f (lines_of LINE_LIMIT (certificates_text fs))
    ∙ ap (λ (ts : List (List (Option Text))). lines_as_given f ∷ ts) (cut_all fs h.1)
