-- The number of workers, by whether an option says it.
use Rattle.std.proofs.Common.{◌≡◌, ℕ, Bool, true, false, ◌||◌, List, [], ◌∷◌, Some, bytes_eq, codes, cond, filter, map, refl, ap}
use Rattle.std.specs.List.{list_any}
use Rattle.std.specs.Option.{option_and_then}
use Rattle.load_options.specs.Numbers.{number_in}
use Rattle.load_options.specs.Options.{numbers_after, the_one}
use Rattle.load_options.specs.Workers.{workers_by, workers_of}
use Rattle.load_options.specs.declared.workers.TheConstants.{MOST_WORKERS}

module _ {A B : Type 0} (p : A → Bool) (f : A → B) where
  none_with : (b r : Bool) (x : A) (ys : List A) → (b || r) ≡ false → (r ≡ false → map f ys ≡ []) → map f (cond b (x ∷ ys) ys) ≡ []
  none_with true r x ys h rest = cc
  none_with false r x ys h rest = rest h

  -- where none passes, none is left
  none_left : (xs : List A) → list_any p xs ≡ false → map f (filter p xs) ≡ []
  none_left [] h = refl
  none_left (x ∷ xs) h = none_with (p x) (list_any p xs) x (filter p xs) h (none_left xs)

  some_with : (b r : Bool) (x : A) (ys : List A) → (b || r) ≡ true → (r ≡ true → ¬ (map f ys ≡ [])) → ¬ (map f (cond b (x ∷ ys) ys) ≡ [])
  some_with true r x ys h rest = λ e. cc
  some_with false r x ys h rest = rest h

  -- where one passes, one is left
  some_left : (xs : List A) → list_any p xs ≡ true → ¬ (map f (filter p xs) ≡ [])
  some_left [] h = cc
  some_left (x ∷ xs) h = some_with (p x) (list_any p xs) x (filter p xs) h (some_left xs)

by_one : (numbers : List (List ℕ)) → ¬ (numbers ≡ []) → workers_by numbers ≡ option_and_then (number_in 1 MOST_WORKERS) (the_one numbers)
by_one [] some = absurd (some refl)
by_one (number ∷ []) some = refl
by_one (number ∷ other ∷ numbers) some = refl

abbrev is_named : List ℕ × List ℕ → Bool
is_named option = bytes_eq option.0 (codes "--workers")

abbrev number_of : List ℕ × List ℕ → List ℕ
number_of option = option.1

-- where no option says it, there is one
pub unsaid : (options : List (List ℕ × List ℕ)) → list_any (λ option. bytes_eq option.0 (codes "--workers")) options ≡ false → workers_of options ≡ Some 1
unsaid options h = ap workers_by (none_left is_named number_of options h)

-- where one says it, it is what the only one says
pub said : (options : List (List ℕ × List ℕ)) → list_any (λ option. bytes_eq option.0 (codes "--workers")) options ≡ true
    → workers_of options ≡ option_and_then (number_in 1 MOST_WORKERS) (the_one (numbers_after (codes "--workers") options))
said options h = by_one (numbers_after (codes "--workers") options) (some_left is_named number_of options h)
