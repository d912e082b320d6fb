-- What holds of each item of a list, of each key, and of what keys find.
use Rattle.std.proofs.Common.{◌≡◌, List, [], ◌∷◌, ◌++◌, Bool, true, false, ◌&&◌, ◌||◌, not, cond, filter, map, Some, None, is_some, refl, sym, subst}
use Rattle.std.specs.declared.cmp.Ordering.{Ordering}
use Rattle.std.specs.Cmp.{IsTotalOrder}
use Rattle.std.specs.FinMap.{IsAntisymmetric}
use Rattle.std.specs.List.{list_all}
use Rattle.std.specs.List.Sorted.{IsStrictlySortedBy}
use Rattle.std.specs.Map.{keys_of}
use Rattle.std.specs.Ordering.{eq_by_cmp}
use Rattle.std.proofs.lemmas.Bool.{and_from, and_parts, false≢true}
use Rattle.maps.specs.Maps.{IsMap, has_key, has_member, value_at}
use Rattle.maps.proofs.Lookups.{none_below}
use Rattle.maps.proofs.Same.{value_at_first}
use Rattle.maps.proofs.Ties.{all_tied, is_equal, same_key}

module _ {A : Type 0} where
  pub each_from : (p q : A → Bool) → ((x : A) → p x ≡ true → q x ≡ true) → (xs : List A) → list_all p xs ≡ true → list_all q xs ≡ true
  each_from p q f [] h = refl
  each_from p q f (x ∷ xs) h =
      let both = and_parts (p x) (list_all p xs) h in
      and_from (q x) (list_all q xs) (f x both.0) (each_from p q f xs both.1)

  pub each_by : (p q r : A → Bool) → ((x : A) → p x ≡ true → q x ≡ true → r x ≡ true) → (xs : List A) → list_all p xs ≡ true → list_all q xs ≡ true → list_all r xs ≡ true
  each_by p q r f [] h k = refl
  each_by p q r f (x ∷ xs) h k =
      let one = and_parts (p x) (list_all p xs) h in
      let other = and_parts (q x) (list_all q xs) k in
      and_from (r x) (list_all r xs) (f x one.0 other.0) (each_by p q r f xs one.1 other.1)

  -- those that pass a test
  pub each_filtered : (p t : A → Bool) (xs : List A) → list_all p xs ≡ true → list_all p (filter t xs) ≡ true
  each_filtered p t [] h = refl
  each_filtered p t (x ∷ xs) h =
      let both = and_parts (p x) (list_all p xs) h in
      elim (t x) as (λ b. list_all p (cond b (x ∷ filter t xs) (filter t xs)) ≡ true) [
        | true ↦ and_from (p x) (list_all p (filter t xs)) both.0 (each_filtered p t xs both.1)
        | false ↦ each_filtered p t xs both.1
      ]

  -- each of those that pass it
  pub each_passing : (p t : A → Bool) (xs : List A) → list_all p (filter t xs) ≡ true → list_all (λ x. not (t x) || p x) xs ≡ true
  each_passing p t [] h = refl
  each_passing p t (x ∷ xs) h = elim (t x) as (λ b. list_all p (cond b (x ∷ filter t xs) (filter t xs)) ≡ true → ((not b || p x) && list_all (λ y. not (t y) || p y) xs) ≡ true) [
    | true ↦ λ k. let both = and_parts (p x) (list_all p (filter t xs)) k in and_from (p x) (list_all (λ y. not (t y) || p y) xs) both.0 (each_passing p t xs both.1)
    | false ↦ λ k. each_passing p t xs k
  ] h

-- where it passes
pub passes : (t b : Bool) → (not t || b) ≡ true → t ≡ true → b ≡ true
passes true b h is = h
passes false b h is = absurd (false≢true is)

module _ {K : Type 0} {cmp : K → K → Ordering} (exact : IsAntisymmetric cmp) where
  pub at_member : (q : K → Bool) (ks : List K) (k : K) → list_all q ks ≡ true → has_member cmp ks k ≡ true → q k ≡ true
  at_member q [] k all h = absurd (false≢true h)
  at_member q (j ∷ ks) k all h =
      let both = and_parts (q j) (list_all q ks) all in
      elim (eq_by_cmp cmp k j) as (λ b. eq_by_cmp cmp k j ≡ b → (b || has_member cmp ks k) ≡ true → q k ≡ true) [
        | true ↦ λ t e. subst (λ (x : K). q x ≡ true) (sym (same_key exact k j t)) both.0
        | false ↦ λ t e. at_member q ks k both.1 e
      ] refl h

  pub at_key : {X : Type 0} (q : K → Bool) (es : List (K × X)) (k : K) → list_all (λ e. q e.0) es ≡ true → has_key cmp es k ≡ true → q k ≡ true
  at_key {X} q [] k all h = absurd (false≢true h)
  at_key {X} q (e ∷ es) k all h =
      let both = and_parts (q e.0) (list_all (λ (x : K × X). q x.0) es) all in
      elim (eq_by_cmp cmp k e.0) as (λ b. eq_by_cmp cmp k e.0 ≡ b → is_some (cond b (Some e.1) (value_at cmp es k)) ≡ true → q k ≡ true) [
        | true ↦ λ t s. subst (λ (x : K). q x ≡ true) (sym (same_key exact k e.0 t)) both.0
        | false ↦ λ t s. at_key q es k both.1 s
      ] refl h

-- the keys of a map, before others
pub member_key : {K X : Type 0} (cmp : K → K → Ordering) (es : List (K × X)) (rest : List K) (k : K) → has_key cmp es k ≡ true → has_member cmp (map (λ e. e.0) es ++ rest) k ≡ true
member_key cmp [] rest k h = absurd (false≢true h)
member_key cmp (e ∷ es) rest k h = elim (eq_by_cmp cmp k e.0) as (λ b. is_some (cond b (Some e.1) (value_at cmp es k)) ≡ true → (b || has_member cmp (map (λ e. e.0) es ++ rest) k) ≡ true) [
  | true ↦ λ s. refl
  | false ↦ λ s. member_key cmp es rest k s
] h

-- what holds of each entry that a look-up finds holds of each entry
pub each_at : {K X : Type 0} {cmp : K → K → Ordering} (o : IsTotalOrder cmp) (p : K × X → Bool) (es : List (K × X)) → IsMap cmp es → ((k : K) (x : X) → value_at cmp es k ≡ Some x → p (k, x) ≡ true) → list_all p es ≡ true
unfolding IsStrictlySortedBy
each_at o p [] h f = refl
each_at {K} {X} {cmp} o p (e ∷ es) h f =
    and_from (p e) (list_all p es) (f e.0 e.1 (value_at_first o e es)) (each_at o p es h.1 (
    λ k x t. f k x (
    elim (eq_by_cmp cmp k e.0) as (λ b. eq_by_cmp cmp k e.0 ≡ b → cond b (Some e.1) (value_at cmp es k) ≡ Some x) [
      | true ↦ λ tie. let none : value_at cmp es k ≡ None = none_below cmp k es (all_tied o k e.0 (keys_of es) (is_equal _ tie) h.0) in cc
      | false ↦ λ tie. t
    ] refl
    )
    ))
