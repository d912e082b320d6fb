-- Texts of digits alone, and the number that they are.
use Rattle.std.proofs.Common.{◌≡◌, ℕ, ◌^◌, ◌<◌, ◌≤◌, List, [], ◌∷◌, ◌++◌, length, slice_index, false, Some, refl, sym, ap, ◌∙◌, arith, append-nil, lt-ltb, ne_eqb}
use Rattle.std.proofs.Math.Nat.{pow-le-pow_right}
use Rattle.std.proofs.lemmas.Int.Digits.{digits_value-lt}
use Rattle.std.proofs.lemmas.Str.Parse.{digit_from_value}
use Rattle.std.specs.Str.Parse.{AllDigits, digits_value}
use Rattle.fast_float.specs.Text.{Parts, scan, IsWellFormed}
use Rattle.fast_float.proofs.Writing.{scan-text_of}
use Rattle.serde_json.specs.Data.{unsigned}
use Rattle.serde_json.specs.Read.{number_of, number_from}

-- the parts of digits alone
abbrev parts_of : List ℕ → Parts
parts_of ds = record { whole = ds; point = false; fraction = []; exponent_negative = false; exponent = []; len = length (ds ++ []) }

-- so many digits stay below that power of ten
pub digits_below : (ds : List ℕ) (k : ℕ) → AllDigits 10 ds → length ds ≤ k → digits_value 10 ds < 10 ^ k
digits_below ds k h short = omega (arith, digits_value-lt 10 ds h, pow-le-pow_right {n = 10} (omega arith) short)

-- a digit is no sign
no_minus : (ds : List ℕ) → AllDigits 10 ds → 0 < length ds → slice_index ds 0 ≡ 45 → ⊥
no_minus [] h some e = omega arith
no_minus (d ∷ ds) h some e = let digit = digit_from_value d h.0 in omega (arith, digit, e)

-- digits alone are the integer that they write, if it fits 64 bits
pub number_of-digits : (ds : List ℕ) → AllDigits 10 ds → 0 < length ds → digits_value 10 ds < 2 ^ 64 → number_of ds ≡ Some (unsigned (digits_value 10 ds))
unfolding number_of
number_of-digits ds h some fits =
    let formed : IsWellFormed (parts_of ds) = record { whole_digits = h; fraction_digits = tt; exponent_digits = tt; no_point = λ _. refl; no_exponent = λ _. refl; len_is = refl } in
    let parts : scan ds ≡ parts_of ds = ap scan (sym (append-nil ds)) ∙ scan-text_of (parts_of ds) formed in
    let read : number_from false (parts_of ds) ≡ Some (unsigned (digits_value 10 ds)) = rw (append-nil ds, lt-ltb 0 (length ds) some, lt-ltb (digits_value 10 ds) (2 ^ 64) fits) refl in
    rw (ne_eqb (slice_index ds 0) 45 (no_minus ds h some)) (ap (number_from false) parts ∙ read)
