-- Numbers as the program reads them.
use Rattle.std.proofs.Common.{◌≡◌, ℕ, ◌<◌, ◌≤◌, ◌^◌, ◌&&◌, Bool, true, false, List, None, Result, Ok, Err, length, nat_le, nat_lt, if◌then◌else◌, refl, rules, arith}
use Rattle.std.proofs.lemmas.Bool.{le-leb, leb-true, lt-leb, ltb-false, ltb-true}
use Rattle.std.proofs.lemmas.Str.Parse.{IsNumeralModel, numerals_by_value, parse_digits}
use Rattle.std.specs.Char.{is_ascii_digit}
use Rattle.std.specs.List.{list_all}
use Rattle.std.specs.Option.{option_and_then}
use Rattle.std.specs.Result.{result_ok}
use Rattle.std.specs.Str.Parse.{ParsesUnsigned, digits_value}
use Rattle.load_options.specs.Numbers.{number_in, within}

own : IsNumeralModel (λ ds. list_all is_ascii_digit ds ≡ true) (digits_value 10)
own = numerals_by_value _ (search rules)

and_false : (b : Bool) → (b && false) ≡ false
and_false true = refl
and_false false = refl

both_true : (b : Bool) → (b && true && true) ≡ b
both_true true = refl
both_true false = refl

-- a number that is too great for 64 bits is above the bound
above : (low high v : ℕ) (b : Bool) → nat_lt v (2 ^ 64) ≡ b → high < 2 ^ 64 → ¬ (v < 2 ^ 64) → within low high v ≡ None
above low high v true e small wide = absurd (wide (ltb-true v (2 ^ 64) e))
above low high v false e small wide =
    let least : 2 ^ 64 ≤ v = ltb-false v (2 ^ 64) e in
    let over : high < v = omega arith in
    rw (lt-leb v high over, and_false (nat_le low v)) refl

-- digits that are no number of 64 bits say none
not_read : (low high v n : ℕ) (b : Bool) → nat_le 1 n ≡ b → high < 2 ^ 64 → ¬ ((0 < n) × (v < 2 ^ 64)) → (if b then within low high v else None) ≡ None
not_read low high v n false e small unread = refl
not_read low high v n true e small unread =
    let some : 1 ≤ n = leb-true 1 n e in
    let more : 0 < n = omega arith in
    above low high v (nat_lt v (2 ^ 64)) refl small (λ fits. unread (more, fits))

-- at most 20 digits say what they parse to
pub parsed : {E : Type 0} (low high : ℕ) (text : List ℕ) (r : Result ℕ E) → high < 2 ^ 64 → length text ≤ 20 → list_all is_ascii_digit text ≡ true → ParsesUnsigned 64 10 text r
    → number_in low high text ≡ option_and_then (within low high) (result_ok r)
parsed {E} low high text (Ok n) small short digits p =
    let o : ((0 < length text) × (digits_value 10 text < 2 ^ 64)) × (n ≡ digits_value 10 text) = parse_digits own {E = E} 64 text (Ok n) p digits in
    let some : 1 ≤ length text = omega (arith, o.0.0) in
    rw (le-leb 1 (length text) some, le-leb (length text) 20 short, digits, o.1) refl
parsed {E} low high text (Err e) small short digits p =
    let o = parse_digits own {E = E} 64 text (Err e) p digits in
    rw (le-leb (length text) 20 short, digits, both_true (nat_le 1 (length text))) (not_read low high (digits_value 10 text) (length text) (nat_le 1 (length text)) refl small o)
