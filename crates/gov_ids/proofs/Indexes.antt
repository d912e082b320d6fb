-- An index reads from its decimal text and from no other.
use Rattle.std.proofs.Common.{◌≡◌, ◌≢◌, ℕ, zero, suc, ◌+◌, ◌-◌, ◌*◌, ◌/◌, ◌%◌, ◌<◌, ◌==◌, ◌⊎◌, inl, inr, Bool, true, false, ◌&&◌, nat_lt, List, [], ◌∷◌, ◌++◌, length, take, slice_index, decimal, Some, None, refl, sym, ap, ◌∙◌, arith}
use Rattle.std.proofs.lemmas.Bool.{and_parts, cases_eq, eq-eqb, ltb-true, lt-ltb, ne_eqb}
use Rattle.std.proofs.lemmas.Fmt.{decimal_digit, decimal_nonempty, decimal_step, digits_decimal, digits_value-decimal, first_decimal}
use Rattle.std.proofs.lemmas.Int.Digits.{digits_value_more}
use Rattle.std.proofs.lemmas.List.{take_all, take_more}
use Rattle.std.proofs.lemmas.Option.{cond_some, none-some}
use Rattle.std.proofs.lemmas.Str.Parse.{IsNumeralModel, digit_at, digits_value-take-le, numerals_by_value, tells_all_ascii_digits}
use Rattle.std.specs.Char.{digit_value, is_ascii_digit}
use Rattle.std.specs.Int.{IsInRange}
use Rattle.std.specs.Str.{all_ascii_digits}
use Rattle.std.specs.Str.Parse.{digits_value}
use Rattle.gov_ids.specs.Spelling.{index_of, number_of}
use Rattle.gov_ids.specs.Laws.{digit_lowered, lowered}

own : IsNumeralModel (λ ds. all_ascii_digits ds ≡ true) (digits_value 10)
own = numerals_by_value _ tells_all_ascii_digits

-- ---- the case of a letter does not count

digit_alike : (c : ℕ) → is_ascii_digit (digit_lowered c) ≡ is_ascii_digit c
digit_alike c = grind (arith)

digits_alike : (ds : List ℕ) → all_ascii_digits (lowered ds) ≡ all_ascii_digits ds
digits_alike [] = refl
digits_alike (d ∷ ds) = rw (digit_alike d, digits_alike ds) refl

-- digits have no case
digit_stays : (d : ℕ) → is_ascii_digit d ≡ true → digit_lowered d ≡ d
digit_stays d h = grind (arith)

digits_stay : (ds : List ℕ) → all_ascii_digits ds ≡ true → lowered ds ≡ ds
digits_stay [] h = refl
digits_stay (d ∷ ds) h =
    let parts = and_parts (is_ascii_digit d) (all_ascii_digits ds) h in
    rw (digit_stays d parts.0, digits_stay ds parts.1) refl

number_by_test : (ds : List ℕ) (b : Bool) → all_ascii_digits ds ≡ b → number_of (lowered ds) ≡ number_of ds
number_by_test ds true h = rw (digits_stay ds h) refl
number_by_test ds false h = rw (digits_alike ds, h) refl

number_of-lowered : (ds : List ℕ) → number_of (lowered ds) ≡ number_of ds
number_of-lowered ds = number_by_test ds (all_ascii_digits ds) refl

zero_alike : (c : ℕ) → (digit_lowered c == 48) ≡ (c == 48)
zero_alike c = grind (arith)

pub index_of-lowered : (ds : List ℕ) → index_of (lowered ds) ≡ index_of ds
index_of-lowered [] = refl
index_of-lowered (d ∷ []) = number_of-lowered (d ∷ [])
index_of-lowered (d ∷ e ∷ ds) = rw (zero_alike d, number_of-lowered (d ∷ e ∷ ds)) refl

pub lowered-decimal : (n : ℕ) → n < 65536 → lowered (decimal n) ≡ decimal n
lowered-decimal n small = digits_stay (decimal n) (digits_decimal own n (omega arith))

-- ---- from the text of a number

number_of-decimal : (n : ℕ) → n < 65536 → number_of (decimal n) ≡ Some n
number_of-decimal n small =
    rw (digits_decimal own n (omega arith), digits_value-decimal own n (omega arith), lt-ltb n 65536 small) refl

-- a text with no zero in front of others
no_zero : (ds : List ℕ) → 0 < length ds → (length ds ≡ 1) ⊎ (slice_index ds 0 ≢ 48) → index_of ds ≡ number_of ds
no_zero [] some h = absurd (omega arith)
no_zero (d ∷ []) some h = refl
no_zero (d ∷ e ∷ ds) some (inl one) = absurd (omega arith)
no_zero (d ∷ e ∷ ds) some (inr other) = rw (ne_eqb d 48 other) refl

no_zero_decimal : (n : ℕ) → n < 65536 → (length (decimal n) ≡ 1) ⊎ (slice_index (decimal n) 0 ≢ 48)
no_zero_decimal zero small = inl (ap length (decimal_digit 0 (omega arith)))
no_zero_decimal (suc n) small = let first = first_decimal (suc n) (omega arith) (omega arith) in inr (omega arith)

pub index_of-decimal : (n : ℕ) → n < 65536 → index_of (decimal n) ≡ Some n
index_of-decimal n small =
    no_zero (decimal n) (decimal_nonempty n (omega arith)) (no_zero_decimal n small) ∙ number_of-decimal n small

-- ---- from what reads as a number

number_of-read : (ds : List ℕ) (n : ℕ) → number_of ds ≡ Some n
    → (all_ascii_digits ds ≡ true) × (digits_value 10 ds ≡ n) × (n < 65536)
number_of-read ds n e =
    let parts = cond_some (all_ascii_digits ds && nat_lt (digits_value 10 ds) 65536) (digits_value 10 ds) n e in
    let both = and_parts (all_ascii_digits ds) (nat_lt (digits_value 10 ds) 65536) parts.0 in
    let small = ltb-true (digits_value 10 ds) 65536 both.1 in
    let same = parts.1 in
    (both.0, parts.1, omega arith)

digit_is : (c : ℕ) → IsInRange 48 57 c → digit_value c ≡ c - 48
digit_is c h = grind (arith)

-- one more digit behind a number
step : (before c v : ℕ) (front : List ℕ) → 0 < before → IsInRange 48 57 c → v ≡ before * 10 + digit_value c → v < 65536
    → decimal before ≡ front → decimal v ≡ front ++ c ∷ []
step before c v front more range is small e =
    let d = digit_is c range in
    let tens : v / 10 ≡ before = omega arith in
    let ones : 48 + v % 10 ≡ c = omega arith in
    decimal_step v (omega arith) (omega arith)
    ∙ ap (λ n. decimal n ++ (48 + v % 10) ∷ []) tens ∙ ap (λ n. decimal before ++ n ∷ []) ones ∙ ap (λ xs. xs ++ c ∷ []) e

-- the first k + 1 digits are the text of their number
front_is : (ds : List ℕ) → all_ascii_digits ds ≡ true → digits_value 10 ds < 65536 → slice_index ds 0 ≢ 48
    → (k : ℕ) → k < length ds
    → (0 < digits_value 10 (take (k + 1) ds)) × (decimal (digits_value 10 (take (k + 1) ds)) ≡ take (k + 1) ds)
front_is ds digits small other zero within =
    let range = digit_at ds 0 (own.to ds digits) within in
    let d = digit_is (slice_index ds 0) range in
    let v = digits_value_more 10 ds 0 within in
    let is : 48 + digit_value (slice_index ds 0) ≡ slice_index ds 0 = omega arith in
    let first : digits_value 10 (take (0 + 1) ds) ≡ digit_value (slice_index ds 0) = omega arith in
    (omega arith, rw (first, take_more ds 0 0 within) (decimal_digit (digit_value (slice_index ds 0)) (omega arith) ∙ ap (λ n. n ∷ []) is))
front_is ds digits small other (suc k) within =
    let before = front_is ds digits small other k (omega arith) in
    let k' : k + 1 ≡ suc k = omega arith in
    let more : 0 < digits_value 10 (take (suc k) ds) = rw k' at before.0 in
    let text : decimal (digits_value 10 (take (suc k) ds)) ≡ take (suc k) ds = rw k' at before.1 in
    let range = digit_at ds (suc k) (own.to ds digits) within in
    let v = digits_value_more 10 ds (suc k) within in
    let fits = digits_value-take-le 10 ds (suc k + 1) (omega arith) in (
      omega arith,
      step (digits_value 10 (take (suc k) ds)) (slice_index ds (suc k)) (digits_value 10 (take (suc k + 1) ds)) (take (suc k) ds) more range v (omega arith) text
          ∙ sym (take_more ds (suc k) 0 within),
    )

text_is : (ds : List ℕ) (k : ℕ) → k + 1 ≡ length ds → all_ascii_digits ds ≡ true → digits_value 10 ds < 65536
    → slice_index ds 0 ≢ 48 → decimal (digits_value 10 ds) ≡ ds
text_is ds k last digits small other =
    let whole : take (k + 1) ds ≡ ds = take_all (k + 1) ds (omega arith) in
    rw whole at (front_is ds digits small other k (omega arith)).1

-- a single digit
one_is : (d : ℕ) → is_ascii_digit d ≡ true → decimal (digit_value d) ≡ d ∷ []
one_is d h =
    let range : IsInRange 48 57 d = grind (arith) in
    let v = digit_is d range in
    let is : 48 + digit_value d ≡ d = omega arith in
    decimal_digit (digit_value d) (omega arith) ∙ ap (λ n. n ∷ []) is

pub index_of-read : (ds : List ℕ) (n : ℕ) → index_of ds ≡ Some n → (n < 65536) × (ds ≡ decimal n)
index_of-read [] n e = cc e
index_of-read (d ∷ []) n e =
    let r = number_of-read (d ∷ []) n e in
    let digit = (and_parts (is_ascii_digit d) true r.0).0 in
    let v : digits_value 10 (d ∷ []) ≡ digit_value d = omega arith in
    (r.2, sym (one_is d digit) ∙ ap decimal (sym v ∙ r.1))
index_of-read (d ∷ f ∷ ds) n e =
    elim (cases_eq d 48) [
      | inl zeroed ↦ absurd (let z : index_of (d ∷ f ∷ ds) ≡ None = rw (eq-eqb d 48 zeroed) refl in none-some n (sym z ∙ e))
      | inr other ↦
          let plain = no_zero (d ∷ f ∷ ds) (omega arith) (inr other) in
          let r = number_of-read (d ∷ f ∷ ds) n (sym plain ∙ e) in
          let same = r.1 in
          let less = r.2 in
          (less, sym (text_is (d ∷ f ∷ ds) (length (f ∷ ds)) (omega arith) r.0 (omega arith) other) ∙ ap decimal same)
    ]
