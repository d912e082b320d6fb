-- The lists of lines, as they are handed over and as the certificate has them.
use Rattle.std.proofs.Common.{◌≡◌, ℕ, List, [], ◌∷◌, ◌++◌, true, false, cond, flat_map, map, not, Option, None, refl, ap, ◌∙◌, append_assoc}
use Rattle.std.specs.declared.cmp.Ordering.{Ordering}
use Rattle.book_records.specs.declared.Entry.{Entry}
use Rattle.certificate_model.specs.Certificate.{certificate_words, mark_words, snapshot_lines, whole_proposal_lines}
use Rattle.frozen_print.specs.Words.{frozen_lines, pool_words}
use Rattle.gov_actions.specs.declared.state.Committee.{Committee}
use Rattle.gov_actions.specs.declared.state.HotState.{HotState}
use Rattle.gov_ids.specs.declared.Credential.{Credential}
use Rattle.gov_ids.specs.declared.PoolId.{PoolId}
use Rattle.gov_model.specs.Hot.{is_member}
use Rattle.gov_model.specs.Snapshot.{Snapshot}
use Rattle.snapshots.specs.declared.frozen.Frozen.{Frozen}
use Rattle.snapshots.specs.Frozen.{frozen_copy_of, frozen_pool}
use Rattle.text_forms.specs.Snapshots.{expiry_words, pool_account_words}
use Rattle.text_model.specs.ParamLines.{param_lines}
use Rattle.text_model.specs.StateLines.{account_words, committee_lines, hot_outside, hot_words, words_of_constitution, words_of_enacted}
use Rattle.text_model.specs.Words.{Text}
use Rattle.view_map.specs.Walk.{entries_past}

-- the lines of the keys that are no members
abbrev pub other_lines : Option Committee → Credential × HotState → List (List Text)
other_lines committee e = cond (is_member committee e.0) [] (hot_words e ∷ [])

pub others : (committee : Option Committee) (es : List (Credential × HotState)) → flat_map (other_lines committee) es ≡ map hot_words (hot_outside committee es)
others committee [] = refl
others committee (e ∷ es) =
    elim (is_member committee e.0) as (λ b. cond b [] (hot_words e ∷ []) ++ flat_map (other_lines committee) es ≡ map hot_words (cond (not b) (e ∷ hot_outside committee es) (hot_outside committee es))) [
      | true ↦ others committee es
      | false ↦ ap (λ (l : List (List Text)). hot_words e ∷ l) (others committee es)
    ]

-- past no key come all
pub all_past : {K X : Type 0} (cmp : K → K → Ordering) (es : List (K × X)) → entries_past cmp None es ≡ es
all_past cmp [] = refl
all_past cmp (e ∷ es) = ap (λ l. e ∷ l) (all_past cmp es)

-- the lists one after another
regrouped : (head committee enacted params dreps pools pools' mark entries proposals : List (List Text)) → pools ≡ pools'
    → (head ++ committee ++ enacted) ++ params ++ ((dreps ++ (pools ++ mark) ++ entries) ++ proposals)
    ≡ head ++ committee ++ enacted ++ params ++ dreps ++ pools' ++ mark ++ entries ++ proposals
regrouped head committee enacted params dreps pools pools' mark entries proposals same =
    ap (λ (ps : List (List Text)). (head ++ committee ++ enacted) ++ params ++ ((dreps ++ (ps ++ mark) ++ entries) ++ proposals)) same
    ∙ simp append_assoc

-- the pools
pools_are : (s : Snapshot) (mark : List (PoolId × ℕ)) → map pool_words (map (λ m. frozen_pool s m.0) mark) ≡ map (pool_account_words s) mark
pools_are s [] = refl
pools_are s (m ∷ mark) = ap (λ (l : List (List Text)). pool_account_words s m ∷ l) (pools_are s mark)

-- what a copy of a snapshot and its lists give
pub lines_are : (s : Snapshot) (f : Frozen) (mark : List (PoolId × ℕ)) (entries : List (Credential × Entry)) → f ≡ frozen_copy_of s → mark ≡ s.mark → entries ≡ s.entries
    → frozen_lines f mark entries ≡ snapshot_lines s
lines_are s f mark entries of marks are =
    (λ i. frozen_lines (of i) (marks i) (are i))
    ∙ regrouped (certificate_words s ∷ words_of_constitution s.start.document s.start.script ∷ []) (committee_lines s.start.committee s.hot) (words_of_enacted s.start.last ∷ [])
    (param_lines s.start.params) (map expiry_words s.dreps)
    (map pool_words (map (λ m. frozen_pool s m.0) s.mark)) (map (pool_account_words s) s.mark) (map mark_words s.mark) (map account_words s.entries) (flat_map whole_proposal_lines s.proposals)
    (pools_are s s.mark)
