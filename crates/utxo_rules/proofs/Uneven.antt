-- Lists of which one item passes a test, or none does.
use Rattle.std.proofs.Common.{◌≡◌, ℕ, ◌+◌, ◌<◌, Bool, true, false, not, ◌||◌, cond, List, [], ◌∷◌, ◌++◌, Some, find, flat_map, length, take, get_or, map, option_map, is_some, append-nil, refl, sym, ap, ◌∙◌, subst}
use Rattle.std.specs.List.{AllByRecursion, enumerate_from, list_any}
use Rattle.std.proofs.lemmas.Bool.{or_parts}
use Rattle.std.proofs.lemmas.List.{take_more}
use Rattle.std.proofs.lemmas.Grind.{flat_map-append}
use Rattle.maps.specs.Words.{is_empty}

module _ {X Y : Type 0} (p : Y → Bool) (g : X → Y) where
  found : (x : X) (xs : List X) (b : Bool) → find p (map g xs) ≡ option_map g (find (λ y. p (g y)) xs)
      → cond b (Some (g x)) (find p (map g xs)) ≡ option_map g (cond b (Some x) (find (λ y. p (g y)) xs))
  found x xs true e = refl
  found x xs false e = e

  -- the first that passes among those that g makes
  pub find-map : (xs : List X) → find p (map g xs) ≡ option_map g (find (λ x. p (g x)) xs)
  find-map [] = refl
  find-map (x ∷ xs) = found x xs (p (g x)) (find-map xs)

module _ {X : Type 0} (p : X → Bool) where
  some_step : (n : ℕ) (x : X) (xs : List X) (b : Bool) → list_any p xs ≡ is_some (find (λ e. p e.1) (enumerate_from (n + 1) xs))
      → (b || list_any p xs) ≡ is_some (cond b (Some (n, x)) (find (λ e. p e.1) (enumerate_from (n + 1) xs)))
  some_step n x xs true e = refl
  some_step n x xs false e = e

  -- whether one passes is whether one is found
  pub any_from : (n : ℕ) (xs : List X) → list_any p xs ≡ is_some (find (λ e. p e.1) (enumerate_from n xs))
  any_from n [] = refl
  any_from n (x ∷ xs) = some_step n x xs (p x) (any_from (n + 1) xs)

module _ {X A : Type 0} (f : X → List A) where
  empty_step : (own others : List A) → not (is_empty own) ≡ false → others ≡ [] → own ++ others ≡ []
  empty_step [] others h e = e
  empty_step (a ∷ own) others h e = cc

  -- where none of them has anything, all of them have nothing
  pub all_empty : (xs : List X) → list_any (λ x. not (is_empty (f x))) xs ≡ false → flat_map f xs ≡ []
  all_empty [] h = refl
  all_empty (x ∷ xs) h =
      let each = or_parts (not (is_empty (f x))) (list_any (λ y. not (is_empty (f y))) xs) h in
      empty_step (f x) (flat_map f xs) each.0 (all_empty xs each.1)

  -- with what one item more has
  pub flat_more : (xs : List X) (i : ℕ) (d : X) → i < length xs → flat_map f (take i xs) ++ f (get_or xs i d) ≡ flat_map f (take (i + 1) xs)
  flat_more xs i d h =
      ap (λ l. flat_map f (take i xs) ++ l) (sym (append-nil (f (get_or xs i d))))
      ∙ sym (flat_map-append f (take i xs) (get_or xs i d ∷ []))
      ∙ ap (flat_map f) (sym (take_more xs i d h))

-- what holds of the items so far, and of the next
pub all_more : {X : Type 0} (P : X → Type 0) (xs : List X) (i : ℕ) (d : X) → i < length xs → AllByRecursion P (take i xs) → P (get_or xs i d) → AllByRecursion P (take (i + 1) xs)
all_more {X} P xs i d h all next = subst (λ (l : List X). AllByRecursion P l) (sym (take_more xs i d h)) (joined P (take i xs) (get_or xs i d) all next)
  where
    joined : {X : Type 0} (P : X → Type 0) (xs : List X) (x : X) → AllByRecursion P xs → P x → AllByRecursion P (xs ++ x ∷ [])
    joined P [] x h p = (p, tt)
    joined P (y ∷ xs) x h p = (h.0, joined P xs x h.1 p)
