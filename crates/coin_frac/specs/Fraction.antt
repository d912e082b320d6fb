-- A fraction as contracts see it: the value of `Unit` and of `Ratio`.
use Rattle.std.specs.Prelude.{ℕ}

-- num / den, not reduced: 1/2 and 2/4 are two fractions
pub record Fraction : Type 0 where
  pub num : ℕ
  pub den : ℕ

-- the fraction of two numbers
abbrev pub fraction : ℕ → ℕ → Fraction
fraction num den = record { num = num; den = den }
