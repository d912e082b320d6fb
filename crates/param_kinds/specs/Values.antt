-- What the words of a parameter's value read as. (Own)
use Rattle.std.specs.Prelude.{ℕ, zero, suc, ◌+◌, ◌^◌, if◌then◌else◌, List, [], ◌∷◌, Option, Some, None, nat_lt}
use Rattle.std.specs.Result.{result_ok}
use Rattle.coin_frac.specs.Fraction.{Fraction, fraction}
use Rattle.gov_ids.specs.Spelling.{◌>>=◌, hash_of}
use Rattle.text_model.specs.Words.{Text}
use Rattle.line_kinds.specs.Cuts.{word_at}
use Rattle.line_kinds.specs.Numbers.{number_of}
use Rattle.book_kinds.specs.Pools.{halves, unit_of}
use Rattle.state_kinds.specs.Heads.{u32_of}

-- a number of 16 bits
abbrev pub u16_of : Text → Option ℕ
u16_of t = do
  n ← number_of t
  if nat_lt n (2 ^ 16) then Some n else None

-- any fraction
abbrev pub ratio_of : Text → Option Fraction
ratio_of t = do
  parts ← halves 47 t
  num ← number_of parts.0
  den ← number_of parts.1
  if nat_lt 0 den then Some (fraction num den) else None

-- a value of one number of 64 bits
abbrev pub u64_in : List Text → Option ℕ
u64_in ws = number_of (word_at 0 ws)

-- a value of one number of 32 bits
abbrev pub u32_in : List Text → Option ℕ
u32_in ws = u32_of (word_at 0 ws)

-- a value of one number of 16 bits
abbrev pub u16_in : List Text → Option ℕ
u16_in ws = u16_of (word_at 0 ws)

-- a value of two numbers of 64 bits
abbrev pub two_u64_in : List Text → Option (ℕ × ℕ)
two_u64_in ws = do
  first ← number_of (word_at 0 ws)
  second ← number_of (word_at 1 ws)
  Some (first, second)

-- a value of one fraction from 0 to 1
abbrev pub unit_in : List Text → Option Fraction
unit_in ws = unit_of (word_at 0 ws)

-- a value of one fraction
abbrev pub ratio_in : List Text → Option Fraction
ratio_in ws = ratio_of (word_at 0 ws)

-- a value of two fractions
abbrev pub two_ratios_in : List Text → Option (Fraction × Fraction)
two_ratios_in ws = do
  first ← ratio_of (word_at 0 ws)
  second ← ratio_of (word_at 1 ws)
  Some (first, second)

-- a value of one hash of 32 bytes
abbrev pub hash_in : List Text → Option (List ℕ)
hash_in ws = result_ok (hash_of 32 (word_at 0 ws))

-- n fractions from 0 to 1, from the word at a place on
abbrev pub units_from : ℕ → ℕ → List Text → Option (List Fraction)
units_from zero place ws = Some []
units_from (suc n) place ws = do
  unit ← unit_of (word_at place ws)
  units ← units_from n (place + 1) ws
  Some (unit ∷ units)

-- a value of n fractions from 0 to 1
abbrev pub units_in : ℕ → List Text → Option (List Fraction)
units_in n ws = units_from n 0 ws
