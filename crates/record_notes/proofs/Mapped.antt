-- Searches of a list whose entries are seen in another way.
use Rattle.std.proofs.Common.{◌≡◌, Bool, true, false, ◌||◌, List, [], ◌∷◌, Some, refl, ap, find, map, option_map, if◌then◌else◌}
use Rattle.std.specs.List.{list_any}

pub any-map : {A B : Type 0} (f : A → B) (p : B → Bool) (xs : List A) → list_any p (map f xs) ≡ list_any (λ (x : A). p (f x)) xs
any-map f p [] = refl
any-map f p (x ∷ xs) = ap (λ (b : Bool). p (f x) || b) (any-map f p xs)

pub find-map : {A B : Type 0} (f : A → B) (p : B → Bool) (xs : List A) → find p (map f xs) ≡ option_map f (find (λ (x : A). p (f x)) xs)
find-map f p [] = refl
find-map {A = A} {B = B} f p (x ∷ xs) = by (p (f x)) (find-map f p xs) where
  by : (b : Bool) → find p (map f xs) ≡ option_map f (find (λ (y : A). p (f y)) xs)
      → (if b then Some (f x) else find p (map f xs)) ≡ option_map f (if b then Some x else find (λ (y : A). p (f y)) xs)
  by true rest = refl
  by false rest = rest
