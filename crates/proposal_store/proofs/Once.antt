-- Lists that name each id once, with one more at the end and with one left out.
use Rattle.std.proofs.Common.{◌≡◌, ℕ, zero, suc, ◌+◌, ◌-◌, ◌<◌, ◌≤◌, true, false, cond, not, ◌||◌, ◌&&◌, List, [], ◌∷◌, ◌++◌, length, get_or, drop, remove, slice_get, arith, refl, ap, sym, ◌∙◌}
use Rattle.std.specs.List.{AllByRecursion, IsDistinct}
use Rattle.std.proofs.Math.ListN.{drop_of_length-le}
use Rattle.std.proofs.lemmas.List.{at_drop_more}
use Rattle.std.proofs.lemmas.Cmp.{eq_by_cmp_equiv}
use Rattle.gov_ids.specs.declared.ActionId.{ActionId}
use Rattle.gov_ids.specs.Orders.{action_id_cmp}
use Rattle.gov_ids.specs.Same.{same_action}
use Rattle.gov_ids.proofs.Totals.{action_id_total}
use Rattle.maps.proofs.Lists.{all_with}
use Rattle.maps.proofs.Sets.{all-without_member, without_member_absent}
use Rattle.maps.specs.Maps.{has_member, without_member}
use Rattle.maps.specs.Words.{some_and}

turned : (a b : ActionId) → same_action a b ≡ same_action b a
turned = (eq_by_cmp_equiv action_id_total).symm

-- one more at the end
pub has_last : (ids : List ActionId) (x q : ActionId) → has_member action_id_cmp (ids ++ x ∷ []) q ≡ (has_member action_id_cmp ids q || same_action x q)
has_last [] x q = ap (λ b. b || false) (turned q x) ∙ elim (same_action x q) as (λ b. (b || false) ≡ b) [ true ↦ refl | false ↦ refl ]
has_last (i ∷ ids) x q = elim (same_action q i) as (λ b. (b || has_member action_id_cmp (ids ++ x ∷ []) q) ≡ ((b || has_member action_id_cmp ids q) || same_action x q)) [ true ↦ refl | false ↦ has_last ids x q ]

apart_from : (x : ActionId) (ids : List ActionId) → has_member action_id_cmp ids x ≡ false → AllByRecursion (λ y. same_action y x ≡ false) ids
apart_from x [] h = tt
apart_from x (i ∷ ids) h =
    elim (same_action x i) as (λ b. same_action x i ≡ b → (b || has_member action_id_cmp ids x) ≡ false → AllByRecursion (λ y. same_action y x ≡ false) (i ∷ ids)) [
      | true ↦ λ _ h. cc
      | false ↦ λ t h. (turned i x ∙ t, apart_from x ids h)
    ] refl h

pub distinct_last : (ids : List ActionId) (x : ActionId) → IsDistinct same_action ids → has_member action_id_cmp ids x ≡ false → IsDistinct same_action (ids ++ x ∷ [])
unfolding IsDistinct
distinct_last [] x d h = (tt, tt)
distinct_last (i ∷ ids) x d h =
    let apart = apart_from x (i ∷ ids) h in
    let later : has_member action_id_cmp ids x ≡ false = elim (same_action x i) as (λ b. (b || has_member action_id_cmp ids x) ≡ false → has_member action_id_cmp ids x ≡ false) [ true ↦ λ e. cc | false ↦ λ e. e ] h in
    (all_with (λ y. same_action i y ≡ false) ids x d.0 apart.0, distinct_last ids x d.1 later)

-- what ties with the first is none of the others
none_later : (i q : ActionId) (ids : List ActionId) → same_action i q ≡ true → AllByRecursion (λ y. same_action i y ≡ false) ids → has_member action_id_cmp ids q ≡ false
none_later i q [] t a = refl
none_later i q (y ∷ ids) t a = (λ j. (sym ((eq_by_cmp_equiv action_id_total).congr i q y t) ∙ a.0) j || none_later i q ids t a.1 j)

-- one left out
pub has_left_out : (ids : List ActionId) (id q : ActionId) → IsDistinct same_action ids → has_member action_id_cmp (without_member action_id_cmp id ids) q ≡ (not (same_action id q) && has_member action_id_cmp ids q)
unfolding IsDistinct
has_left_out [] id q d = elim (same_action id q) as (λ b. false ≡ (not b && false)) [ true ↦ refl | false ↦ refl ]
has_left_out (i ∷ ids) id q d =
    let equal = eq_by_cmp_equiv action_id_total in
    elim (same_action id i) as (λ b. same_action id i ≡ b → has_member action_id_cmp (cond b ids (i ∷ without_member action_id_cmp id ids)) q ≡ (not (same_action id q) && (same_action q i || has_member action_id_cmp ids q))) [
      | true ↦ λ t.
          let is : same_action q i ≡ same_action id q = turned q i ∙ sym (equal.congr id i q t) in
          elim (same_action id q) as (λ b. same_action id q ≡ b → has_member action_id_cmp ids q ≡ (not b && (b || has_member action_id_cmp ids q))) [
            | true ↦ λ s. none_later i q ids (sym (equal.congr id i q t) ∙ s) d.0
            | false ↦ λ _. refl
          ] refl
          ∙ ap (λ b. not (same_action id q) && (b || has_member action_id_cmp ids q)) (sym is)
      | false ↦ λ t.
          ap (λ b. same_action q i || b) (has_left_out ids id q d.1)
          ∙ elim (same_action q i) as (λ b. same_action q i ≡ b → (b || (not (same_action id q) && has_member action_id_cmp ids q)) ≡ (not (same_action id q) && (b || has_member action_id_cmp ids q))) [
            | true ↦ λ s. ap (λ b. not b && true) (sym (turned id q ∙ equal.congr q i id s ∙ turned i id ∙ t))
            | false ↦ λ _. refl
          ] refl
    ] refl

pub distinct_left_out : (id : ActionId) (ids : List ActionId) → IsDistinct same_action ids → IsDistinct same_action (without_member action_id_cmp id ids)
unfolding IsDistinct
distinct_left_out id [] d = tt
distinct_left_out id (i ∷ ids) d =
    elim (same_action id i) as (λ b. IsDistinct same_action (cond b ids (i ∷ without_member action_id_cmp id ids))) [
      | true ↦ d.1
      | false ↦ (all-without_member action_id_cmp (λ y. same_action i y ≡ false) id ids d.0, distinct_left_out id ids d.1)
    ]

-- none before it ties with the one at a place
earlier_apart : (x id : ActionId) (ids : List ActionId) (n : ℕ) → AllByRecursion (λ y. same_action x y ≡ false) ids → some_and (same_action id) (slice_get ids n) ≡ true → same_action id x ≡ false
earlier_apart x id [] n a h = cc
earlier_apart x id (y ∷ ids) zero a h = (eq_by_cmp_equiv action_id_total).congr id y x h ∙ turned y x ∙ a.0
earlier_apart x id (y ∷ ids) (suc n) a h = earlier_apart x id ids n a.1 h

-- the one at a place, left out
pub removed_is : (ids : List ActionId) (id : ActionId) (n : ℕ) → IsDistinct same_action ids → some_and (same_action id) (slice_get ids n) ≡ true → remove ids n ≡ without_member action_id_cmp id ids
unfolding IsDistinct
removed_is [] id n d h = cc
removed_is (x ∷ ids) id zero d h = ap (λ b. cond b ids (x ∷ without_member action_id_cmp id ids)) (sym h)
removed_is (x ∷ ids) id (suc n) d h =
    ap (λ (l : List ActionId). x ∷ l) (removed_is ids id n d.1 h)
    ∙ ap (λ b. cond b ids (x ∷ without_member action_id_cmp id ids)) (sym (earlier_apart x id ids n d.0 h))

-- none, left out
pub none_removed : (ids : List ActionId) (id : ActionId) → has_member action_id_cmp ids id ≡ false → ids ≡ without_member action_id_cmp id ids
none_removed ids id h = sym (without_member_absent action_id_cmp id ids h)

-- what was put at the end is left out again
pub undone : (ids : List ActionId) (x : ActionId) → has_member action_id_cmp ids x ≡ false → without_member action_id_cmp x (ids ++ x ∷ []) ≡ ids
undone [] x h = ap (λ b. cond b [] (x ∷ [])) ((eq_by_cmp_equiv action_id_total).refl x)
undone (i ∷ ids) x h =
    elim (same_action x i) as (λ b. (b || has_member action_id_cmp ids x) ≡ false → cond b (ids ++ x ∷ []) (i ∷ without_member action_id_cmp x (ids ++ x ∷ [])) ≡ i ∷ ids) [
      | true ↦ λ h. cc
      | false ↦ λ h. ap (λ (l : List ActionId). i ∷ l) (undone ids x h)
    ] h

-- ---- the index of an id

pub place_found : (ids : List ActionId) (id : ActionId) (n : ℕ) (d : ActionId) → n < length ids → same_action (get_or ids n d) id ≡ true → some_and (same_action id) (slice_get ids n) ≡ true
place_found [] id n d l t = absurd (omega (arith, l))
place_found (x ∷ ids) id zero d l t = turned id x ∙ t
place_found (x ∷ ids) id (suc n) d l t = place_found ids id n d (omega (arith, l)) t

-- it is none of those from the place before on
pub place_passed : (ids : List ActionId) (id : ActionId) (i : ℕ) (d : ActionId) → 0 < i → i ≤ length ids → same_action (get_or ids (i - 1) d) id ≡ false → has_member action_id_cmp (drop i ids) id ≡ false
    → has_member action_id_cmp (drop (i - 1) ids) id ≡ false
place_passed ids id i d some l f h =
    let next : i - 1 + 1 ≡ i = omega arith in
    at_drop_more (λ (left : List ActionId). has_member action_id_cmp left id) ids (i - 1) d (omega arith)
    ∙ (λ j. (turned id (get_or ids (i - 1) d) ∙ f) j || has_member action_id_cmp (drop (next j) ids) id)
    ∙ h

pub none_past : (ids : List ActionId) (id : ActionId) → has_member action_id_cmp (drop (length ids) ids) id ≡ false
none_past ids id = ap (λ (left : List ActionId). has_member action_id_cmp left id) (drop_of_length-le ids (omega arith))
