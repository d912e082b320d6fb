-- Lists in order, with fewer items and under other names.
use Rattle.std.proofs.Common.{◌≡◌, List, [], ◌∷◌, Bool, true, false, cond, filter, fold, map, refl, ap, sym, ◌∙◌}
use Rattle.std.specs.declared.cmp.Ordering.{Ordering}
use Rattle.std.specs.declared.cmp.Ordering.TheVariants.{Less, Equal, Greater}
use Rattle.std.specs.Ordering.{match_ordering}
use Rattle.std.specs.Cmp.{IsTotalOrder}
use Rattle.std.specs.List.{AllByRecursion}
use Rattle.std.specs.List.Sorted.{IsStrictlySortedBy}
use Rattle.maps.specs.Maps.{IsSet, in_order, with_key}
use Rattle.maps.proofs.Sets.{IsSet-with_key}
use Rattle.maps.proofs.Ties.{all_above}

module _ {A B : Type 0} (cmp : A → A → Ordering) (order : B → B → Ordering) (g : A → B) (same : (x y : A) → order (g x) (g y) ≡ cmp x y) where
  map-with_key : (k : A) (ks : List A) → with_key order (g k) (map g ks) ≡ map g (with_key cmp k ks)
  map-with_key k [] = refl
  map-with_key k (x ∷ xs) =
      ap (λ (r : Ordering). match_ordering r (g k ∷ g x ∷ map g xs) (g x ∷ map g xs) (g x ∷ with_key order (g k) (map g xs))) (same k x)
      ∙ elim (cmp k x) as (λ r. match_ordering r (g k ∷ g x ∷ map g xs) (g x ∷ map g xs) (g x ∷ with_key order (g k) (map g xs)) ≡ map g (match_ordering r (k ∷ x ∷ xs) (x ∷ xs) (x ∷ with_key cmp k xs))) [
        | Less ↦ refl
        | Equal ↦ refl
        | Greater ↦ ap (λ (ys : List B). g x ∷ ys) (map-with_key k xs)
      ]

  map-folded : (xs s : List A) → fold (λ t k. with_key order k t) (map g s) (map g xs) ≡ map g (fold (λ t k. with_key cmp k t) s xs)
  map-folded [] s = refl
  map-folded (x ∷ xs) s = ap (λ (t : List B). fold (λ t k. with_key order k t) t (map g xs)) (map-with_key x s) ∙ map-folded xs (with_key cmp x s)

  -- in order under other names that compare as the items do
  pub map-in_order : (xs : List A) → in_order order (map g xs) ≡ map g (in_order cmp xs)
  map-in_order xs = map-folded xs []

module _ {A : Type 0} (p : A → Bool) where
  all_passing : (P : A → Type 0) (xs : List A) → AllByRecursion P xs → AllByRecursion P (filter p xs)
  all_passing P [] h = tt
  all_passing P (x ∷ xs) h =
      elim (p x) as (λ b. AllByRecursion P (cond b (x ∷ filter p xs) (filter p xs))) [
        | true ↦ (h.0, all_passing P xs h.1)
        | false ↦ all_passing P xs h.1
      ]

  -- the names of those whose name passes
  pub filter-map : {B : Type 0} (g : B → A) (xs : List B) → filter p (map g xs) ≡ map g (filter (λ x. p (g x)) xs)
  filter-map g [] = refl
  filter-map g (x ∷ xs) =
      elim (p (g x)) as (λ b. cond b (g x ∷ filter p (map g xs)) (filter p (map g xs)) ≡ map g (cond b (x ∷ filter (λ y. p (g y)) xs) (filter (λ y. p (g y)) xs))) [
        | true ↦ ap (λ (ys : List A). g x ∷ ys) (filter-map g xs)
        | false ↦ filter-map g xs
      ]

module _ {A : Type 0} {cmp : A → A → Ordering} (o : IsTotalOrder cmp) (p : A → Bool) (tie : (x y : A) → cmp x y ≡ Equal → p x ≡ p y) where
  -- what comes before each is the first
  with_first : (k : A) (xs : List A) → AllByRecursion (λ q. cmp k q ≡ Less) xs → with_key cmp k xs ≡ k ∷ xs
  with_first k [] h = refl
  with_first k (x ∷ xs) h = ap (λ (r : Ordering). match_ordering r (k ∷ x ∷ xs) (x ∷ xs) (x ∷ with_key cmp k xs)) h.0

  with_before : (k x : A) (xs : List A) → cmp k x ≡ Less → AllByRecursion (λ q. cmp x q ≡ Less) xs → with_key cmp k (filter p (x ∷ xs)) ≡ k ∷ filter p (x ∷ xs)
  with_before k x xs e h =
      with_first k (filter p (x ∷ xs)) (all_passing p (λ q. cmp k q ≡ Less) (x ∷ xs) (e, all_above o k x xs e h))

  with_between : (k x : A) (xs : List A) → cmp k x ≡ Greater → filter p (with_key cmp k xs) ≡ cond (p k) (with_key cmp k (filter p xs)) (filter p xs)
      → filter p (x ∷ with_key cmp k xs) ≡ cond (p k) (with_key cmp k (filter p (x ∷ xs))) (filter p (x ∷ xs))
  with_between k x xs e h =
      elim (p x) as (λ b. cond b (x ∷ filter p (with_key cmp k xs)) (filter p (with_key cmp k xs)) ≡ cond (p k) (with_key cmp k (cond b (x ∷ filter p xs) (filter p xs))) (cond b (x ∷ filter p xs) (filter p xs))) [
        | true ↦ ap (λ (ys : List A). x ∷ ys) h ∙ elim (p k) as (λ b. x ∷ cond b (with_key cmp k (filter p xs)) (filter p xs) ≡ cond b (with_key cmp k (x ∷ filter p xs)) (x ∷ filter p xs)) [
          | true ↦ sym (ap (λ (r : Ordering). match_ordering r (k ∷ x ∷ filter p xs) (x ∷ filter p xs) (x ∷ with_key cmp k (filter p xs))) e)
          | false ↦ refl
        ]
        | false ↦ h
      ]

  with_tied : (k x : A) (xs : List A) → cmp k x ≡ Equal → (b : Bool) → p k ≡ b → p x ≡ b → filter p (x ∷ xs) ≡ cond b (with_key cmp k (filter p (x ∷ xs))) (filter p (x ∷ xs))
  with_tied k x xs e true hk hx =
      let one : filter p (x ∷ xs) ≡ x ∷ filter p xs = ap (λ (b : Bool). cond b (x ∷ filter p xs) (filter p xs)) hx in
      one ∙ sym (ap (λ (r : Ordering). match_ordering r (k ∷ x ∷ filter p xs) (x ∷ filter p xs) (x ∷ with_key cmp k (filter p xs))) e) ∙ sym (ap (with_key cmp k) one)
  with_tied k x xs e false hk hx = refl

  filter-with_key : (k : A) (xs : List A) → IsSet cmp xs → filter p (with_key cmp k xs) ≡ cond (p k) (with_key cmp k (filter p xs)) (filter p xs)
  unfolding IsStrictlySortedBy
  filter-with_key k [] h = refl
  filter-with_key k (x ∷ xs) h =
      elim (cmp k x) as (λ r. cmp k x ≡ r → filter p (match_ordering r (k ∷ x ∷ xs) (x ∷ xs) (x ∷ with_key cmp k xs)) ≡ cond (p k) (with_key cmp k (filter p (x ∷ xs))) (filter p (x ∷ xs))) [
        | Less ↦ λ e. ap (λ (ys : List A). cond (p k) ys (filter p (x ∷ xs))) (sym (with_before k x xs e h.0))
        | Equal ↦ λ e. with_tied k x xs e (p k) refl (sym (tie k x e))
        | Greater ↦ λ e. with_between k x xs e (filter-with_key k xs h.1)
      ] refl

  filter-folded : (xs s : List A) → IsSet cmp s → filter p (fold (λ t k. with_key cmp k t) s xs) ≡ fold (λ t k. with_key cmp k t) (filter p s) (filter p xs)
  filter-folded [] s h = refl
  filter-folded (x ∷ xs) s h =
      filter-folded xs (with_key cmp x s) (IsSet-with_key o x s h)
      ∙ ap (λ (t : List A). fold (λ t k. with_key cmp k t) t (filter p xs)) (filter-with_key x s h)
      ∙ elim (p x) as (λ b. fold (λ t k. with_key cmp k t) (cond b (with_key cmp x (filter p s)) (filter p s)) (filter p xs) ≡ fold (λ t k. with_key cmp k t) (filter p s) (cond b (x ∷ filter p xs) (filter p xs))) [
        | true ↦ refl
        | false ↦ refl
      ]

  -- those in order that pass are those that pass, in order
  pub filter-in_order : (xs : List A) → filter p (in_order cmp xs) ≡ in_order cmp (filter p xs)
  unfolding IsStrictlySortedBy
  filter-in_order xs = filter-folded xs [] tt
