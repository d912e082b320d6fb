-- What is found from a place on.
use Rattle.std.proofs.Common.{◌≡◌, ℕ, ◌+◌, ◌<◌, Bool, true, false, List, ◌∷◌, Some, drop, find, length, refl, ap, sym, ◌∙◌}
use Rattle.std.proofs.Math.ListN.{get_or}
use Rattle.std.proofs.lemmas.List.{drop_more}

module _ {X : Type 0} (f : X → Bool) where
  found_first : (x : X) (xs : List X) → f x ≡ true → Some x ≡ find f (x ∷ xs)
  found_first x xs e = rw e refl

  passed_first : (x : X) (xs : List X) → f x ≡ false → find f xs ≡ find f (x ∷ xs)
  passed_first x xs e = rw e refl

  -- the item at a place is the first from there on that is found
  pub found_at : (xs : List X) (i : ℕ) (d : X) → i < length xs → f (get_or xs i d) ≡ true → Some (get_or xs i d) ≡ find f (drop i xs)
  found_at xs i d h e = found_first (get_or xs i d) (drop (i + 1) xs) e ∙ ap (find f) (sym (drop_more xs i d h))

  -- one that is not found is passed over
  pub passed_at : (xs : List X) (i : ℕ) (d : X) → i < length xs → f (get_or xs i d) ≡ false → find f (drop (i + 1) xs) ≡ find f (drop i xs)
  passed_at xs i d h e = passed_first (get_or xs i d) (drop (i + 1) xs) e ∙ ap (find f) (sym (drop_more xs i d h))
