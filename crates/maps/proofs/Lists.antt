-- The item at an index of a list, and what holds of each item.
use Rattle.std.proofs.Common.{◌≡◌, ℕ, ◌<◌, List, [], ◌∷◌, ◌++◌, length, get_or, slice_get, Some, None, sym, ◌∙◌, arith}
use Rattle.std.specs.List.{AllByRecursion}
use Rattle.std.proofs.lemmas.Option.{slice_get-get_or}

-- there is something at each place
pub never_past : {A : Type 0} (xs : List A) (i : ℕ) → i < length xs → slice_get xs i ≡ None → ⊥
never_past [] i within none = omega arith
never_past (x ∷ xs) i within none =
    let some : slice_get (x ∷ xs) i ≡ Some (get_or (x ∷ xs) i x) = slice_get-get_or (x ∷ xs) i x within in
    let never : None ≡ Some (get_or (x ∷ xs) i x) = sym none ∙ some in cc

-- what holds of each holds with one more of which it holds
pub all_with : {A : Type 0} (P : A → Type 0) (xs : List A) (x : A) → AllByRecursion P xs → P x → AllByRecursion P (xs ++ x ∷ [])
all_with P [] x h p = (p, tt)
all_with P (y ∷ xs) x h p = (h.0, all_with P xs x h.1 p)
