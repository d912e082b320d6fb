-- The live proposals that are matched with ids and votes are the frozen ones, if there are any.
use Rattle.std.proofs.Common.{◌≡◌, ℕ, suc, ◌+◌, ◌<◌, ◌≤◌, List, [], ◌∷◌, ◌++◌, Bool, true, false, not, cond, ◌||◌, length, drop, get_or, filter, map, refl, ap, sym, ◌∙◌, append_assoc, length-append, arith}
use Rattle.std.specs.List.{list_any}
use Rattle.std.proofs.lemmas.Bool.{or_parts}
use Rattle.std.proofs.lemmas.Cmp.{eq_by_cmp_equiv}
use Rattle.std.proofs.lemmas.List.{at_drop_all, at_drop_more}
use Rattle.gov_ids.specs.declared.ActionId.{ActionId}
use Rattle.gov_ids.specs.declared.Voter.{Voter}
use Rattle.gov_ids.specs.Orders.{action_id_cmp}
use Rattle.gov_ids.specs.Same.{same_action}
use Rattle.gov_ids.proofs.Exacts.{action_id_exact}
use Rattle.gov_ids.proofs.Totals.{action_id_total}
use Rattle.gov_actions.specs.declared.action.Proposal.{Proposal}
use Rattle.gov_actions.specs.declared.action.Vote.{Vote}
use Rattle.gov_model.specs.Ratified.{ids_of, is_one_of}
use Rattle.maps.proofs.Ties.{same_key}
use Rattle.maps.specs.Words.{repeats}
use Rattle.checkpoint_model.specs.Resumable.{live_of, unvoted}
use Rattle.resume_checks.specs.Frozen.{IsFrozenOf, matched, voted_of, with_votes}

abbrev Voted : Type 0
Voted = ActionId × List (Voter × Vote)

-- ---- ids

-- no two proposals have the same id
abbrev pub AreApart : List Proposal → Type 0
AreApart live = repeats action_id_cmp (ids_of live) ≡ false

pub apart_from : (b : Bool) → not b ≡ true → b ≡ false
apart_from true h = cc
apart_from false h = refl

-- the first id is none of the later ones
fresh : (p : Proposal) (live : List Proposal) → AreApart (p ∷ live) → list_any (same_action p.id) (ids_of live) ≡ false
fresh p live h = (or_parts (list_any (same_action p.id) (ids_of live)) (repeats action_id_cmp (ids_of live)) h).0

later : (p : Proposal) (live : List Proposal) → AreApart (p ∷ live) → AreApart live
later p live h = (or_parts (list_any (same_action p.id) (ids_of live)) (repeats action_id_cmp (ids_of live)) h).1

-- an id that no live one has no matched one has
none_matched : (test : ActionId → Bool) (live : List Proposal) (vs : List Voted) → list_any test (ids_of live) ≡ false → list_any test (ids_of (matched live vs)) ≡ false
none_matched test [] vs h = refl
none_matched test (p ∷ live) [] h = refl
none_matched test (p ∷ live) (v ∷ vs) h =
    let parts = or_parts (test p.id) (list_any test (ids_of live)) h in
    elim (same_action p.id v.0) as (λ t. list_any test (ids_of (cond t (with_votes p v.1 ∷ matched live vs) (matched live (v ∷ vs)))) ≡ false) [
      | true ↦ ap (λ b. b || list_any test (ids_of (matched live vs))) parts.0 ∙ none_matched test live vs parts.1
      | false ↦ none_matched test live (v ∷ vs) parts.1
    ]

-- among others than it, an id more makes no difference
one_id_more : (k : ActionId) (ids : List ActionId) (live : List Proposal) → list_any (same_action k) (ids_of live) ≡ false → filter (is_one_of (k ∷ ids)) live ≡ filter (is_one_of ids) live
one_id_more k ids [] h = refl
one_id_more k ids (p ∷ live) h =
    let parts = or_parts (same_action k p.id) (list_any (same_action k) (ids_of live)) h in
    let other : same_action p.id k ≡ false = (eq_by_cmp_equiv action_id_total).symm p.id k ∙ parts.0 in
    λ i. cond (other i || is_one_of ids p) (p ∷ one_id_more k ids live parts.1 i) (one_id_more k ids live parts.1 i)

none_of_none : (live : List Proposal) → filter (is_one_of []) live ≡ []
none_of_none [] = refl
none_of_none (p ∷ live) = none_of_none live

-- ---- what is matched is live

itself : (id : ActionId) → same_action id id ≡ true
itself id = (eq_by_cmp_equiv action_id_total).refl id

pub matched_is_live : (live : List Proposal) (vs : List Voted) → AreApart live → map unvoted (live_of (matched live vs) live) ≡ map unvoted (matched live vs)
matched_is_live [] vs h = refl
matched_is_live (p ∷ live) [] h = ap (map unvoted) (none_of_none (p ∷ live))
matched_is_live (p ∷ live) (v ∷ vs) h =
    elim (same_action p.id v.0) as (λ t. let ps : List Proposal = cond t (with_votes p v.1 ∷ matched live vs) (matched live (v ∷ vs)) in map unvoted (live_of ps (p ∷ live)) ≡ map unvoted ps) [
      | true ↦
          let ids : List ActionId = ids_of (matched live vs) in
          ap (λ b. map unvoted (cond (b || is_one_of ids p) (p ∷ filter (is_one_of (p.id ∷ ids)) live) (filter (is_one_of (p.id ∷ ids)) live))) (itself p.id)
          ∙ ap (λ (ps : List Proposal). unvoted p ∷ map unvoted ps) (one_id_more p.id ids live (fresh p live h))
          ∙ ap (λ (ps : List Proposal). unvoted p ∷ ps) (matched_is_live live vs (later p live h))
      | false ↦
          let ids : List ActionId = ids_of (matched live (v ∷ vs)) in
          ap (λ b. map unvoted (cond b (p ∷ filter (is_one_of ids) live) (filter (is_one_of ids) live))) (none_matched (same_action p.id) live (v ∷ vs) (fresh p live h))
          ∙ matched_is_live live (v ∷ vs) (later p live h)
    ]

-- ---- and has these ids and votes, if none of them is left

pub matched_is_told : (live : List Proposal) (vs : List Voted) → length (matched live vs) ≡ length vs → map voted_of (matched live vs) ≡ vs
matched_is_told [] [] e = refl
matched_is_told [] (v ∷ vs) e = absurd (omega arith)
matched_is_told (p ∷ live) [] e = refl
matched_is_told (p ∷ live) (v ∷ vs) e =
    elim (same_action p.id v.0) as (λ t. same_action p.id v.0 ≡ t → length (cond t (with_votes p v.1 ∷ matched live vs) (matched live (v ∷ vs))) ≡ length (v ∷ vs)
    → map voted_of (cond t (with_votes p v.1 ∷ matched live vs) (matched live (v ∷ vs))) ≡ v ∷ vs) [
      | true ↦ λ t e. λ i. (same_key action_id_exact p.id v.0 t i, v.1) ∷ matched_is_told live vs (omega arith) i
      | false ↦ λ t e. matched_is_told live (v ∷ vs) e
    ] refl e

-- ---- and none is left of the ids and votes of live ones

all_matched : (live ps : List Proposal) → AreApart live → map unvoted (live_of ps live) ≡ map unvoted ps → length (matched live (map voted_of ps)) ≡ length ps
all_matched [] [] h e = refl
all_matched [] (q ∷ qs) h e = cc
all_matched (p ∷ live) [] h e = refl
all_matched (p ∷ live) (q ∷ qs) h e =
    let ids : List ActionId = ids_of (q ∷ qs) in
    let rest : List Proposal = filter (is_one_of ids) live in
    elim (is_one_of ids p) as (λ b. is_one_of ids p ≡ b → map unvoted (cond b (p ∷ rest) rest) ≡ map unvoted (q ∷ qs) → length (matched (p ∷ live) (map voted_of (q ∷ qs))) ≡ length (q ∷ qs)) [
      | true ↦ λ t e.
          let first : unvoted p ≡ unvoted q = cc in
          let others : map unvoted rest ≡ map unvoted qs = cc in
          let same : p.id ≡ q.id = ap (λ (x : Proposal). x.id) first in
          let new : list_any (same_action q.id) (ids_of live) ≡ false = ap (λ (id : ActionId). list_any (same_action id) (ids_of live)) (sym same) ∙ fresh p live h in
          let shorter : map unvoted (live_of qs live) ≡ map unvoted qs = ap (map unvoted) (sym (one_id_more q.id (ids_of qs) live new)) ∙ others in
          let tied : same_action p.id q.id ≡ true = ap (same_action p.id) (sym same) ∙ itself p.id in
          ap (λ b. length (cond b (with_votes p q.votes ∷ matched live (map voted_of qs)) (matched live (map voted_of (q ∷ qs))))) tied
          ∙ ap suc (all_matched live qs (later p live h) shorter)
      | false ↦ λ t e.
          let apart : same_action p.id q.id ≡ false = (or_parts (same_action p.id q.id) (is_one_of (ids_of qs) p) t).0 in
          ap (λ b. length (cond b (with_votes p q.votes ∷ matched live (map voted_of qs)) (matched live (map voted_of (q ∷ qs))))) apart
          ∙ all_matched live (q ∷ qs) (later p live h) e
    ] refl e

length-voted : (ps : List Proposal) → length (map voted_of ps) ≡ length ps
length-voted [] = refl
length-voted (p ∷ ps) = ap suc (length-voted ps)

-- the matched ones are as told, if they are as many
pub frozen_if : (live : List Proposal) (vs : List Voted) → AreApart live → length (matched live vs) ≡ length vs → IsFrozenOf live vs (matched live vs)
frozen_if live vs h e = record { told = matched_is_told live vs e; kept = matched_is_live live vs h }

-- and they are as many, if some proposals are as told
pub as_many : (live : List Proposal) (vs : List Voted) (ps : List Proposal) → AreApart live → IsFrozenOf live vs ps → length (matched live vs) ≡ length vs
as_many live vs ps h f =
    ap (λ (ws : List Voted). length (matched live ws)) (sym f.told)
    ∙ all_matched live ps h f.kept
    ∙ sym (length-voted ps)
    ∙ ap length f.told

-- ---- one live proposal after another

none_told : (live : List Proposal) → matched live [] ≡ []
none_told [] = refl
none_told (p ∷ live) = refl

module _ (live : List Proposal) (voted : List Voted) (items all : List Proposal) (i : ℕ) (p : Proposal) (l : i < length live) (at : p ≡ get_or live i p)
    (before : items ++ matched (drop i live) (drop (length items) voted) ≡ all) where
  -- what is left begins with the live proposal
  first_live : (vs : List Voted) → matched (drop i live) vs ≡ matched (p ∷ drop (i + 1) live) vs
  first_live vs = at_drop_more (λ (ps : List Proposal). matched ps vs) live i p l ∙ ap (λ (q : Proposal). matched (q ∷ drop (i + 1) live) vs) (sym at)

  -- no ids and votes are left
  pub past_all : length voted ≤ length items → items ++ matched (drop (i + 1) live) (drop (length items) voted) ≡ all
  past_all le =
      let none : (ps : List Proposal) → matched ps (drop (length items) voted) ≡ [] = λ ps. at_drop_all (matched ps) voted (length items) le ∙ none_told ps in
      ap (λ (ps : List Proposal). items ++ ps) (none (drop (i + 1) live) ∙ sym (none (drop i live))) ∙ before

  module _ (v : Voted) (lt : length items < length voted) (here : v ≡ get_or voted (length items) v) where
    -- the next ids and votes are v
    both : matched (drop i live) (drop (length items) voted) ≡ matched (p ∷ drop (i + 1) live) (v ∷ drop (length items + 1) voted)
    both =
        first_live (drop (length items) voted)
        ∙ at_drop_more (matched (p ∷ drop (i + 1) live)) voted (length items) v lt
        ∙ ap (λ (w : Voted). matched (p ∷ drop (i + 1) live) (w ∷ drop (length items + 1) voted)) (sym here)

    abbrev other : Bool → List Proposal
    other b = cond b (with_votes p v.1 ∷ matched (drop (i + 1) live) (drop (length items + 1) voted)) (matched (drop (i + 1) live) (v ∷ drop (length items + 1) voted))

    -- they are of another id
    pub passed : same_action p.id v.0 ≡ false → items ++ matched (drop (i + 1) live) (drop (length items) voted) ≡ all
    passed apart =
        let rest : matched (drop (i + 1) live) (drop (length items) voted) ≡ other false =
        at_drop_more (matched (drop (i + 1) live)) voted (length items) v lt ∙ ap (λ (w : Voted). matched (drop (i + 1) live) (w ∷ drop (length items + 1) voted)) (sym here) in
        ap (λ (ps : List Proposal). items ++ ps) (rest ∙ sym (both ∙ ap other apart)) ∙ before

    -- they are of its id
    pub taken : same_action p.id v.0 ≡ true → (items ++ with_votes p v.1 ∷ []) ++ matched (drop (i + 1) live) (drop (length (items ++ with_votes p v.1 ∷ [])) voted) ≡ all
    taken same =
        let more : length (items ++ with_votes p v.1 ∷ []) ≡ length items + 1 = omega (arith, length-append items (with_votes p v.1 ∷ [])) in
        ap (λ (n : ℕ). (items ++ with_votes p v.1 ∷ []) ++ matched (drop (i + 1) live) (drop n voted)) more
        ∙ append_assoc items (with_votes p v.1 ∷ []) (matched (drop (i + 1) live) (drop (length items + 1) voted))
        ∙ ap (λ (ps : List Proposal). items ++ ps) (sym (both ∙ ap other same))
        ∙ before
