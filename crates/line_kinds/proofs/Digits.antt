-- Numbers of 64 bits as they are read.
use Rattle.std.proofs.Common.{◌≡◌, ℕ, ◌<◌, ◌≤◌, ◌^◌, ◌&&◌, Bool, true, false, List, Some, None, Result, Ok, Err, length, nat_le, nat_lt, if◌then◌else◌, refl, ap, sym, rules, arith}
use Rattle.std.proofs.lemmas.Bool.{le-leb, leb-true, lt-ltb, ltb-true}
use Rattle.std.proofs.lemmas.Str.Parse.{IsNumeralModel, numerals_by_value, parse_digits}
use Rattle.std.specs.Char.{is_ascii_digit}
use Rattle.std.specs.List.{list_all}
use Rattle.std.specs.Result.{result_ok}
use Rattle.std.specs.Str.Parse.{ParsesUnsigned, digits_value}
use Rattle.line_kinds.specs.Numbers.{if_u64, number_of}

pub own : IsNumeralModel (λ ds. list_all is_ascii_digit ds ≡ true) (digits_value 10)
own = numerals_by_value _ (search rules)

both_true : (b : Bool) → (b && true && true) ≡ b
both_true true = refl
both_true false = refl

-- a number that is too great for 64 bits is none
too_great : (v : ℕ) (b : Bool) → nat_lt v (2 ^ 64) ≡ b → ¬ (v < 2 ^ 64) → (if b then Some v else None) ≡ None
too_great v true e wide = absurd (wide (ltb-true v (2 ^ 64) e))
too_great v false e wide = refl

-- digits that are no number of 64 bits are none
not_read : (v n : ℕ) (b : Bool) → nat_le 1 n ≡ b → ¬ ((0 < n) × (v < 2 ^ 64)) → (if b then if_u64 v else None) ≡ None
not_read v n false e unread = refl
not_read v n true e unread =
    let some : 1 ≤ n = leb-true 1 n e in
    let more : 0 < n = omega arith in
    too_great v (nat_lt v (2 ^ 64)) refl (λ fits. unread (more, fits))

-- at most 20 digits say what they parse to
pub parsed : {E : Type 0} (text : List ℕ) (r : Result ℕ E) → length text ≤ 20 → list_all is_ascii_digit text ≡ true → ParsesUnsigned 64 10 text r → number_of text ≡ result_ok r
parsed {E} text (Ok n) short digits p =
    let o : ((0 < length text) × (digits_value 10 text < 2 ^ 64)) × (n ≡ digits_value 10 text) = parse_digits own {E = E} 64 text (Ok n) p digits in
    let some : 1 ≤ length text = omega (arith, o.0.0) in
    rw (le-leb 1 (length text) some, le-leb (length text) 20 short, digits, lt-ltb (digits_value 10 text) (2 ^ 64) o.0.1) (ap Some (sym o.1))
parsed {E} text (Err e) short digits p =
    let o = parse_digits own {E = E} 64 text (Err e) p digits in
    rw (le-leb (length text) 20 short, digits, both_true (nat_le 1 (length text))) (not_read (digits_value 10 text) (length text) (nat_le 1 (length text)) refl o)
