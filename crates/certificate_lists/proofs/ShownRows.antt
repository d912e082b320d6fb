-- The lines of a snapshot, group by group.
use Rattle.std.proofs.Common.{◌≡◌, ◌++◌, List, [], ◌∷◌, Option, Some, None, flat_map, map, option_map, refl, ap, ◌∙◌}
use Rattle.gov_actions.specs.declared.action.Proposal.{Proposal}
use Rattle.gov_actions.specs.declared.state.Committee.{Committee}
use Rattle.gov_model.specs.Sides.{members_of}
use Rattle.gov_model.specs.Snapshot.{Snapshot}
use Rattle.text_forms.specs.Snapshots.{action_words, expiry_words, pool_account_words}
use Rattle.text_model.specs.ParamLines.{param_lines}
use Rattle.text_model.specs.StateLines.{account_words, committee_words, hot_outside, hot_words, member_among, words_of_constitution, words_of_enacted}
use Rattle.text_model.specs.Words.{Text}
use Rattle.certificate_model.specs.Certificate.{certificate_words, mark_words, snapshot_lines, whole_proposal_lines}
use Rattle.book_kinds.specs.Books.{vote_line}
use Rattle.book_kinds.specs.Frozen.{pool_account_line}
use Rattle.state_kinds.specs.Proposals.{proposal_line}
use Rattle.state_kinds.specs.States.{committee_line, member_line}
use Rattle.checkpoint_lists.specs.Shown.{member_row, pool_account_row, proposal_row}
use Rattle.certificate_lists.specs.Rows.{governed_rows, governed_shown, rows_shown, snapshot_rows, voter_rows, voters_shown, whole_row, whole_rows}
use Rattle.certificate_lists.proofs.RowLaws.{after4}

-- one change after another
map_twice : {A B C : Type 0} (f : A → B) (g : B → C) (h : A → C) → ((x : A) → g (f x) ≡ h x) → (xs : List A) → map g (map f xs) ≡ map h xs
map_twice f g h same [] = refl
map_twice f g h same (x ∷ xs) = ap (λ t. t ∷ map g (map f xs)) (same x) ∙ ap (λ t. h x ∷ t) (map_twice f g h same xs)

-- ---- how the epoch was governed

committee_same : (c : Option Committee) → committee_line (option_map (λ d. d.threshold) c) ≡ committee_words c
committee_same None = refl
committee_same (Some c) = refl

governed_same : (f : Snapshot) → governed_rows (governed_shown f) ≡
    certificate_words f ∷ words_of_constitution f.start.document f.start.script ∷ committee_words f.start.committee ∷ []
    ++ map (member_among f.hot) (members_of f.start.committee)
    ++ map hot_words (hot_outside f.start.committee f.hot)
    ++ words_of_enacted f.start.last ∷ []
governed_same f =
    let c = f.start.committee in
    let hot = map hot_words (hot_outside c f.hot) in
    let last : List (List Text) = words_of_enacted f.start.last ∷ [] in
    let front : List Text → List (List Text) = λ w. certificate_words f ∷ words_of_constitution f.start.document f.start.script ∷ w ∷ [] in
    ap (λ w. front w ++ map member_line (map (member_row f.hot) (members_of c)) ++ hot ++ last) (committee_same c)
    ∙ ap (λ t. front (committee_words c) ++ t ++ hot ++ last) (map_twice (member_row f.hot) member_line (member_among f.hot) (λ m. refl) (members_of c))

-- ---- who votes

voters_same : (f : Snapshot) → voter_rows (voters_shown f) ≡ map expiry_words f.dreps ++ map (pool_account_words f) f.mark ++ map mark_words f.mark ++ map account_words f.entries
voters_same f =
    ap (λ t. map expiry_words f.dreps ++ t ++ map mark_words f.mark ++ map account_words f.entries)
    (map_twice (pool_account_row f) pool_account_line (pool_account_words f) (λ m. refl) f.mark)

-- ---- proposals

whole_same : (p : Proposal) → whole_rows (whole_row p) ≡ whole_proposal_lines p
whole_same p =
    ap (λ (t : List (List Text)). proposal_line (proposal_row p).0 ∷ t ++ action_words p ∷ []) (map_twice _ vote_line _ (λ v. refl) p.votes)

proposals_same : (ps : List Proposal) → flat_map whole_rows (map whole_row ps) ≡ flat_map whole_proposal_lines ps
proposals_same [] = refl
proposals_same (p ∷ ps) =
    ap (λ (t : List (List Text)). t ++ flat_map whole_rows (map whole_row ps)) (whole_same p)
    ∙ ap (λ (t : List (List Text)). whole_proposal_lines p ++ t) (proposals_same ps)

-- ---- all of it

pub shown_same : (f : Snapshot) → snapshot_rows (rows_shown f) ≡ snapshot_lines f
shown_same f =
    let head : List (List Text) =
    certificate_words f ∷ words_of_constitution f.start.document f.start.script ∷ committee_words f.start.committee ∷ []
    ++ map (member_among f.hot) (members_of f.start.committee)
    ++ map hot_words (hot_outside f.start.committee f.hot)
    ++ words_of_enacted f.start.last ∷ [] in
    let params = param_lines f.start.params in
    let dreps = map expiry_words f.dreps in
    let pools = map (pool_account_words f) f.mark in
    let mark = map mark_words f.mark in
    let entries = map account_words f.entries in
    ap (λ t. t ++ params ++ voter_rows (voters_shown f) ++ flat_map whole_rows (map whole_row f.proposals)) (governed_same f)
    ∙ ap (λ t. head ++ params ++ t ++ flat_map whole_rows (map whole_row f.proposals)) (voters_same f)
    ∙ ap (λ t. head ++ params ++ (dreps ++ pools ++ mark ++ entries) ++ t) (proposals_same f.proposals)
    ∙ ap (λ (t : List (List Text)). t ++ flat_map whole_proposal_lines f.proposals) (after4 (head ++ params) dreps pools mark entries)
