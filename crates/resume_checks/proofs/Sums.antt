-- Lovelace taken from an amount, item after item.
use Rattle.std.proofs.Common.{◌≡◌, ℕ, ◌+◌, ◌-◌, ◌<◌, ◌≤◌, eqb, leb, List, Option, Some, None, is_some, drop, get_or, length, sum_by, sym, arith}
use Rattle.std.specs.Option.{SomeIff, option_eq}
use Rattle.std.proofs.lemmas.Bool.{eq-eqb, eqb-true, le-leb, leb-true}
use Rattle.std.proofs.lemmas.List.Sums.{sum_by-drop_more}
use Rattle.resume_checks.proofs.Bools.{never, same_answer}

module _ {A : Type 0} (f : A → ℕ) (xs : List A) (i : ℕ) (d : A) (l : i < length xs) (left amount n : ℕ) (before : left + sum_by f xs ≡ amount + sum_by f (drop i xs)) (is : n ≡ f (get_or xs i d)) where
  -- the next item is covered
  pub one_less : n ≤ left → left - n + sum_by f xs ≡ amount + sum_by f (drop (i + 1) xs)
  one_less le = omega (arith, sum_by-drop_more f xs i d l)

  -- the next item is not
  pub too_much : left < n → amount < sum_by f xs
  too_much lt = omega (arith, sum_by-drop_more f xs i d l)

-- ---- what the rest tells

-- nothing is left if and only if the sum is the amount
pub just_by : (r : Option ℕ) (sum amount : ℕ) → SomeIff r (sum ≤ amount) (amount - sum) → option_eq eqb r (Some 0) ≡ eqb sum amount
just_by None sum amount h = never (eqb sum amount) (λ t. h (omega (arith, eqb-true sum amount t)))
just_by (Some x) sum amount h =
    same_answer (eqb x 0) (eqb sum amount) (λ t. eq-eqb sum amount (omega (arith, eqb-true x 0 t, h.0, h.1))) (λ t. eq-eqb x 0 (omega (arith, eqb-true sum amount t, h.0, h.1)))

-- something is left if and only if the sum is at most the amount
pub within_by : (r : Option ℕ) (sum amount : ℕ) → SomeIff r (sum ≤ amount) (amount - sum) → is_some r ≡ leb sum amount
within_by None sum amount h = never (leb sum amount) (λ t. h (leb-true sum amount t))
within_by (Some x) sum amount h = sym (le-leb sum amount h.0)

-- without two sums in turn
pub both_some : (r : Option ℕ) (s t amount left : ℕ) → s ≤ amount → left ≡ amount - s → SomeIff r (t ≤ left) (left - t) → SomeIff r (s + t ≤ amount) (amount - (s + t))
both_some None s t amount left le is h = λ both. h (omega (arith, le, is, both))
both_some (Some x) s t amount left le is h = (omega (arith, le, is, h.0), omega (arith, le, is, h.0, h.1))
