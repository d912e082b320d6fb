-- Hex digits in either case read alike, and what reads is printed as its text in lower case.
use Rattle.std.proofs.Common.{◌≡◌, ℕ, ◌+◌, ◌*◌, ◌<◌, ◌%◌, ◌/◌, ◌==◌, true, nat_lt, if◌then◌else◌, List, [], ◌∷◌, length, slice_index, Option, Some, None, Result, Ok, Err, refl, sym, ap, ◌∙◌, arith, IsOk}
use Rattle.std.proofs.lemmas.Bool.{agree_below_at, eqb-true}
use Rattle.std.proofs.lemmas.List.{length-map}
use Rattle.std.proofs.lemmas.List.Elements.{All-cons, All-head, All-nil, All-tail}
use Rattle.std.specs.List.{AllPass}
use Rattle.std.specs.Result.{result_unwrap_or}
use Rattle.hex.proofs.HexLemmas.{decode_of-encode_lower, decode_of-even, decode_of-ok, length-encode_with}
use Rattle.hex.specs.Hex.{decode_of, decode_pairs, digit_or_error, encode_lower, encode_with, hex_digit_value, is_hex_digit, lower_digits, pair_value, value_at, ◌>>=◌}
use Rattle.hex.specs.declared.error.FromHexError.{FromHexError}
use Rattle.gov_ids.specs.declared.IdFault.{IdFault}
use Rattle.gov_ids.specs.declared.IdFault.TheVariants.{BadLength, BadHex}
use Rattle.gov_ids.specs.Spelling.{hash_of, or_bad_hex}
use Rattle.gov_ids.specs.Laws.{IsHash, digit_lowered, lowered}
use Rattle.gov_ids.proofs.HashLemmas.{hash_of_bad_hex, hash_of_decoded, hash_of_ok}

-- the digit of a value below 16
abbrev glyph : ℕ → ℕ
glyph v = if nat_lt v 10 then 48 + v else 87 + v

glyph_is : (v : ℕ) → v < 16 → slice_index lower_digits v ≡ glyph v
glyph_is v small =
    let t : (slice_index lower_digits v == glyph v) ≡ true = agree_below_at (λ d. slice_index lower_digits d == glyph d) (λ d. true) 16 v refl small in
    eqb-true (slice_index lower_digits v) (glyph v) t

digit_small : (c v : ℕ) → hex_digit_value c ≡ Some v → (v < 16) × (digit_lowered c ≡ glyph v)
digit_small c v e = grind (arith)

-- a digit in lower case is that of its value
lowered_digit : (c v : ℕ) → hex_digit_value c ≡ Some v → digit_lowered c ≡ slice_index lower_digits v
lowered_digit c v e =
    let h = digit_small c v e in
    h.1 ∙ sym (glyph_is v h.0)

-- what an `Ok` after a step shows
bind_ok : {A B : Type 0} (r : Result A FromHexError) (f : A → Result B FromHexError) (y : B)
    → (r >>= f) ≡ Ok y → (x : A) × (r ≡ Ok x) × (f x ≡ Ok y)
bind_ok (Ok x) f y h = (x, refl, h)
bind_ok (Err e) f y h = cc h

digit_read : (c i : ℕ) (o : Option ℕ) (v : ℕ) → digit_or_error c i o ≡ Ok v → o ≡ Some v
digit_read c i (Some w) v h = cc
digit_read c i None v h = cc h

-- a pair of digits prints as its byte
encode_pair : (v w : ℕ) (rest : List ℕ) → v < 16 → w < 16
    → encode_lower ((v * 16 + w) ∷ rest) ≡ slice_index lower_digits v ∷ slice_index lower_digits w ∷ encode_lower rest
unfolding encode_with
encode_pair v w rest hv hw =
    let high : (v * 16 + w) / 16 ≡ v = omega arith in
    let low : (v * 16 + w) % 16 ≡ w = omega arith in
    rw (high, low) refl

-- two digits in front of a text
pair_step : (a b v w x : ℕ) (s rest bytes : List ℕ) → hex_digit_value a ≡ Some v → hex_digit_value b ≡ Some w
    → v * 16 + w ≡ x → x ∷ rest ≡ bytes → lowered s ≡ encode_lower rest → lowered (a ∷ b ∷ s) ≡ encode_lower bytes
pair_step a b v w x s rest bytes ra rb byte e ih =
    rw (lowered_digit a v ra, lowered_digit b w rb, ih)
    (sym (encode_pair v w rest (digit_small a v ra).0 (digit_small b w rb).0)
    ∙ ap (λ y. encode_lower (y ∷ rest)) byte ∙ ap encode_lower e)

-- what decodes is its bytes' text, in either case
lowered_pairs : (i : ℕ) (s bytes : List ℕ) → decode_pairs i s ≡ Ok bytes → lowered s ≡ encode_lower bytes
unfolding decode_pairs encode_with
lowered_pairs i [] bytes h =
    let e : [] ≡ bytes = ap (λ (r : Result (List ℕ) FromHexError). result_unwrap_or r []) h in
    rw (← e) refl
lowered_pairs i (a ∷ []) bytes h = cc h
lowered_pairs i (a ∷ b ∷ rest) bytes h =
    let p0 = bind_ok (pair_value a b i) _ bytes h in
    let p1 = bind_ok (value_at a i) _ p0.0 p0.1 in
    let p2 = bind_ok (value_at b (i + 1)) _ p0.0 p1.2 in
    let p3 = bind_ok (decode_pairs (i + 2) rest) _ bytes p0.2 in
    let ra = digit_read a i (hex_digit_value a) p1.0 p1.1 in
    let rb = digit_read b (i + 1) (hex_digit_value b) p2.0 p2.1 in
    let byte : p1.0 * 16 + p2.0 ≡ p0.0 = ap (λ (r : Result ℕ FromHexError). result_unwrap_or r 0) p2.2 in
    let e : p0.0 ∷ p3.0 ≡ bytes = ap (λ (r : Result (List ℕ) FromHexError). result_unwrap_or r []) p3.2 in
    pair_step a b p1.0 p2.0 p0.0 rest p3.0 bytes ra rb byte e (lowered_pairs (i + 2) rest p3.0 p3.1)

-- the case of a digit does not count
lowered_is_digit : (c : ℕ) → is_hex_digit (digit_lowered c) ≡ is_hex_digit c
lowered_is_digit c = grind (arith)

all_digits_lowered : (s : List ℕ) → AllPass is_hex_digit s → AllPass is_hex_digit (lowered s)
all_digits_lowered [] h = All-nil (λ c. is_hex_digit c ≡ true)
all_digits_lowered (c ∷ s) h =
    All-cons (λ c. is_hex_digit c ≡ true) (digit_lowered c) (lowered s)
    (lowered_is_digit c ∙ All-head (λ c. is_hex_digit c ≡ true) c s h)
    (all_digits_lowered s (All-tail (λ c. is_hex_digit c ≡ true) c s h))

all_digits_before : (s : List ℕ) → AllPass is_hex_digit (lowered s) → AllPass is_hex_digit s
all_digits_before [] h = All-nil (λ c. is_hex_digit c ≡ true)
all_digits_before (c ∷ s) h =
    All-cons (λ c. is_hex_digit c ≡ true) c s
    (sym (lowered_is_digit c) ∙ All-head (λ c. is_hex_digit c ≡ true) (digit_lowered c) (lowered s) h)
    (all_digits_before s (All-tail (λ c. is_hex_digit c ≡ true) (digit_lowered c) (lowered s) h))

-- ---- hashes

same_bytes : (r : Result (List ℕ) FromHexError) (h : List ℕ) → or_bad_hex r ≡ Ok h → r ≡ Ok h
same_bytes (Ok bytes) h e = cc
same_bytes (Err x) h e = cc e

hash_of_digits : (n : ℕ) (s h : List ℕ) → length s ≡ 2 * n → hash_of n s ≡ Ok h → decode_of s ≡ Ok h
hash_of_digits n s h len e = same_bytes (decode_of s) h (grind (arith))

-- what reads is n bytes, and its text in lower case
pub hash_of-read : (n : ℕ) (s h : List ℕ) → hash_of n s ≡ Ok h → IsHash n h × (lowered s ≡ encode_lower h)
hash_of-read n s h e =
    let is_ok : IsOk (hash_of n s) = rw e refl in
    let len = ((hash_of_ok n s).0 is_ok).0 in
    let d = hash_of_digits n s h len e in
    let parts = decode_of-ok s h d in
    let twice = parts.2 in
    ((omega arith, parts.3), lowered_pairs 0 s h (sym (decode_of-even s parts.0) ∙ d))

-- the text of n bytes reads as them
pub hash_of-hash_text : (n : ℕ) (h : List ℕ) → IsHash n h → hash_of n (encode_lower h) ≡ Ok h
hash_of-hash_text n h is =
    let long = length-encode_with lower_digits h in
    hash_of_decoded n (encode_lower h) h (omega (arith, long, is.0)) (decode_of-encode_lower h is.1)

lowered_hash : (n : ℕ) (s : List ℕ) (r : Result (List ℕ) IdFault) → hash_of n s ≡ r → hash_of n (lowered s) ≡ r
lowered_hash n s (Ok h) e =
    let read = hash_of-read n s h e in
    rw read.1 (hash_of-hash_text n h read.0)
lowered_hash n s (Err BadLength) e =
    let len = length-map s digit_lowered in
    grind (arith)
lowered_hash n s (Err BadHex) e =
    let bad = (hash_of_bad_hex n s).0 e in
    (hash_of_bad_hex n (lowered s)).1 (length-map s digit_lowered ∙ bad.0, λ h. bad.1 (all_digits_before s h))

-- the case of the digits does not count
pub hash_of-lowered : (n : ℕ) (s : List ℕ) → hash_of n (lowered s) ≡ hash_of n s
hash_of-lowered n s = lowered_hash n s (hash_of n s) refl
