-- Among items with distinct keys, the key of one is among those that pass if and only if it passes.
use Rattle.std.proofs.Common.{◌≡◌, List, [], ◌∷◌, Bool, true, false, cond, ◌||◌, filter, map, refl, ap, ◌∙◌}
use Rattle.std.specs.List.{AllByRecursion, IsDistinct, list_any}

module _ {A K : Type 0} (key : A → K) (same : K → K → Bool) (itself : (k : K) → same k k ≡ true) (back : (k q : K) → same k q ≡ same q k) where
  abbrev pub is_among : List A → A → Bool
  is_among xs a = list_any (same (key a)) (map key xs)

  none_passes : (q : A → Bool) (k : K) (xs : List A) → AllByRecursion (λ j. same k j ≡ false) (map key xs) → list_any (same k) (map key (filter q xs)) ≡ false
  none_passes q k [] h = refl
  none_passes q k (x ∷ xs) h =
      elim (q x) as (λ b. list_any (same k) (map key (cond b (x ∷ filter q xs) (filter q xs))) ≡ false) [
        | true ↦ ap (λ b. b || list_any (same k) (map key (filter q xs))) h.0 ∙ none_passes q k xs h.1
        | false ↦ none_passes q k xs h.1
      ]

  -- the first of the items
  first_is : (q : A → Bool) (x : A) (xs : List A) → AllByRecursion (λ j. same (key x) j ≡ false) (map key xs) → is_among (filter q (x ∷ xs)) x ≡ q x
  first_is q x xs h =
      elim (q x) as (λ b. is_among (cond b (x ∷ filter q xs) (filter q xs)) x ≡ b) [
        | true ↦ ap (λ b. b || list_any (same (key x)) (map key (filter q xs))) (itself (key x))
        | false ↦ none_passes q (key x) xs h
      ]

  -- and those behind it
  others_are : (q : A → Bool) (x : A) (xs ys : List A) → AllByRecursion (λ j. same (key x) j ≡ false) (map key ys) → AllByRecursion (λ a. is_among (filter q xs) a ≡ q a) ys
      → AllByRecursion (λ a. is_among (filter q (x ∷ xs)) a ≡ q a) ys
  others_are q x xs [] h are = tt
  others_are q x xs (y ∷ ys) h are =
      let here : is_among (filter q (x ∷ xs)) y ≡ is_among (filter q xs) y =
      elim (q x) as (λ b. is_among (cond b (x ∷ filter q xs) (filter q xs)) y ≡ is_among (filter q xs) y) [
        | true ↦ ap (λ b. b || is_among (filter q xs) y) (back (key y) (key x) ∙ h.0)
        | false ↦ refl
      ] in
      (here ∙ are.0, others_are q x xs ys h.1 are.1)

  pub passes_is : (q : A → Bool) (xs : List A) → IsDistinct same (map key xs) → AllByRecursion (λ a. is_among (filter q xs) a ≡ q a) xs
  unfolding IsDistinct
  passes_is q [] d = tt
  passes_is q (x ∷ xs) d = (first_is q x xs d.0, others_are q x xs xs d.0 (passes_is q xs d.1))
