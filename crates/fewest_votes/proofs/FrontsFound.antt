-- The fronts of a list, one item after the other.
use Rattle.std.proofs.Common.{◌≡◌, ℕ, zero, suc, ◌+◌, List, [], ◌∷◌, ◌++◌, Bool, cond, Option, Some, None, length, map, take, refl, ap, sym, ◌∙◌, add-one, append_assoc}
use Rattle.std.specs.List.{find, range_with_len}
use Rattle.shortfall_model.specs.Silent.{fronts_of}

module _ {A : Type 0} where
  -- the first list that passes of those that add to ds one or more of the next items
  abbrev pub later : (List A → Bool) → List A → List A → Option (List A)
  later p ds [] = None
  later p ds (x ∷ xs) = cond (p (ds ++ x ∷ [])) (Some (ds ++ x ∷ [])) (later p (ds ++ x ∷ []) xs)

  -- ds and so many items
  abbrev with_front : List A → List A → ℕ → List A
  with_front ds xs n = ds ++ take n xs

  one_more : (ds xs : List A) (x : A) (n : ℕ) → with_front ds (x ∷ xs) (n + 1) ≡ with_front (ds ++ x ∷ []) xs n
  one_more ds xs x n = ap (λ (k : ℕ). ds ++ take k (x ∷ xs)) (add-one n) ∙ sym (append_assoc ds (x ∷ []) (take n xs))

  all_more : (ds xs : List A) (x : A) (i n : ℕ) → map (with_front ds (x ∷ xs)) (range_with_len (i + 1) n) ≡ map (with_front (ds ++ x ∷ []) xs) (range_with_len i n)
  all_more ds xs x i zero = refl
  all_more ds xs x i (suc n) = λ j. one_more ds xs x i j ∷ all_more ds xs x (i + 1) n j

  found_later : (p : List A → Bool) (ds xs : List A) → find p (map (with_front ds xs) (range_with_len 1 (length xs))) ≡ later p ds xs
  found_later p ds [] = refl
  found_later p ds (x ∷ xs) =
      ap (λ (rest : List (List A)). cond (p (ds ++ x ∷ [])) (Some (ds ++ x ∷ [])) (find p rest)) (all_more ds xs x 1 (length xs))
      ∙ ap (λ (o : Option (List A)). cond (p (ds ++ x ∷ [])) (Some (ds ++ x ∷ [])) o) (found_later p (ds ++ x ∷ []) xs)

  -- the shortest front that passes is none, or one of those later
  pub found_front : (p : List A → Bool) (xs : List A) → find p (fronts_of xs) ≡ cond (p []) (Some []) (later p [] xs)
  found_front p xs =
      ap (λ (n : ℕ). find p (map (λ k. take k xs) (range_with_len 0 n))) (add-one (length xs))
      ∙ ap (λ (o : Option (List A)). cond (p []) (Some []) o) (found_later p [] xs)
