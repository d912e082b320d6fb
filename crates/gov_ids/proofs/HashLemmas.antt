-- What reading a hash answers, from what decoding it answers.
use Rattle.std.proofs.Common.{◌≡◌, ℕ, ◌+◌, ◌*◌, ◌<◌, ◌↔◌, List, length, inl, inr, Some, Result, Ok, Err, ap, refl, arith, IsErrOf, IsOk}
use Rattle.std.proofs.lemmas.Bool.{cases_eq}
use Rattle.std.specs.List.{AllPass}
use Rattle.hex.proofs.HexLemmas.{decode_of-digits, decode_of-ok}
use Rattle.hex.specs.Hex.{decode_of, digit_or_error, hex_digit_value, is_hex_digit, pair_value, value_at}
use Rattle.hex.specs.declared.error.FromHexError.{FromHexError}
use Rattle.gov_ids.specs.declared.IdFault.{IdFault}
use Rattle.gov_ids.specs.declared.IdFault.TheVariants.{BadLength, BadHex}
use Rattle.gov_ids.specs.Spelling.{hash_of, or_bad_hex}

-- where the length is right, reading a hash is decoding
right : (n : ℕ) (s : List ℕ) → length s ≡ 2 * n → hash_of n s ≡ or_bad_hex (decode_of s)
right n s h = grind (arith)

-- what decodes is digits
decoded : (s : List ℕ) (r : Result (List ℕ) FromHexError) → decode_of s ≡ r → IsOk (or_bad_hex r) → AllPass is_hex_digit s
decoded s (Ok bytes) e h = (decode_of-ok s bytes e).1
decoded s (Err x) e h = cc h

-- what decodes is read
pub hash_of_decoded : (n : ℕ) (s bytes : List ℕ) → length s ≡ 2 * n → decode_of s ≡ Ok bytes → hash_of n s ≡ Ok bytes
hash_of_decoded n s bytes h e = rw (right n s h, e) refl

-- two digits are the byte of their values
pub pair_of_digits : (a b i v w : ℕ) → hex_digit_value a ≡ Some v → hex_digit_value b ≡ Some w → pair_value a b i ≡ Ok (v * 16 + w)
pair_of_digits a b i v w ha hb =
    let first : value_at a i ≡ Ok v = ap (digit_or_error a i) ha in
    let second : value_at b (i + 1) ≡ Ok w = ap (digit_or_error b (i + 1)) hb in
    rw (first, second) refl

-- the value of a result that is `Ok`
ok_value : (r : Result (List ℕ) IdFault) → IsOk r → (bytes : List ℕ) × (r ≡ Ok bytes)
ok_value (Ok bytes) h = (bytes, refl)
ok_value (Err e) h = cc h

-- a bad digit is looked for only where the length is right
right_length : (n : ℕ) (s : List ℕ) → hash_of n s ≡ Err BadHex → length s ≡ 2 * n
right_length n s h =
    elim (cases_eq (length s) (2 * n)) [
      | inl same ↦ same
      | inr other ↦ grind (arith)
    ]

-- and the length is at fault only where it is not
err_is_hex : (n : ℕ) (s : List ℕ) (r : Result (List ℕ) IdFault) → hash_of n s ≡ r → length s ≡ 2 * n → ¬ (IsOk r) → r ≡ Err BadHex
err_is_hex n s (Ok bytes) e len bad = absurd (bad refl)
err_is_hex n s (Err BadHex) e len bad = refl
err_is_hex n s (Err BadLength) e len bad = grind (arith)

-- which texts read as a hash
pub hash_of_ok : (n : ℕ) (s : List ℕ) → IsOk (hash_of n s) ↔ ((length s ≡ 2 * n) × AllPass is_hex_digit s)
hash_of_ok n s = (
  λ ok.
      elim (cases_eq (length s) (2 * n)) [
        | inl same ↦ (same, decoded s (decode_of s) refl (rw (← right n s same) ok))
        | inr other ↦ grind (arith)
      ],
  λ h.
      let d = decode_of-digits s (omega (arith, h.0)) h.1 in
      rw (right n s h.0, d.1) refl,
)

-- which texts have the right length and another byte
pub hash_of_bad_hex : (n : ℕ) (s : List ℕ) → IsErrOf (hash_of n s) BadHex ↔ ((length s ≡ 2 * n) × ¬ (AllPass is_hex_digit s))
hash_of_bad_hex n s = (
  λ bad. (right_length n s bad, λ digits. cc (bad, (ok_value (hash_of n s) ((hash_of_ok n s).1 (right_length n s bad, digits))).1)),
  λ h. err_is_hex n s (hash_of n s) refl h.0 (λ ok. h.1 (((hash_of_ok n s).0 ok).1)),
)

-- a short text is no hash
pub hash_of_short : (n : ℕ) (s : List ℕ) → length s < 2 * n → hash_of n s ≡ Err BadLength
hash_of_short n s h = grind (arith)
