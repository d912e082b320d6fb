-- The laws of the first line of a certificate.
use Rattle.std.proofs.Common.{◌≡◌, ℕ, true, ◌&&◌, List, [], ◌∷◌, Option, Some, None, IfSome, codes, decimal, refl, ap}
use Rattle.std.proofs.lemmas.Bool.{and_from, and_parts}
use Rattle.std.proofs.lemmas.Option.{none-some, same_Some}
use Rattle.std.specs.Option.{option_and_then}
use Rattle.text_forms.specs.Actions.{is_version}
use Rattle.text_model.specs.Words.{Text, version_text}
use Rattle.tx_records.specs.Limits.{is_u64}
use Rattle.line_kinds.specs.Cuts.{are_plain, is_plain, word_at}
use Rattle.line_kinds.specs.Numbers.{number_of}
use Rattle.book_kinds.proofs.Fields.{IsField, number_field, then_formed}
use Rattle.state_kinds.specs.Heads.{is_now_line, now_in, now_line, version_of}
use Rattle.certificate_lists.specs.Kinds.{certificate_in}
use Rattle.certificate_lists.specs.Rows.{certificate_line, is_certificate_line}

abbrev is_num : ℕ → Type 0
is_num n = is_u64 n ≡ true

-- ---- versions, as the line of where a chain is has them

-- the words of that line, with this one for the version
abbrev now_with : Text → List Text
now_with t = codes "now" ∷ codes "slot" ∷ codes "0" ∷ codes "epoch" ∷ codes "0" ∷ codes "version" ∷ t ∷ codes "dormant" ∷ codes "0" ∷ []

-- what it says of a version
abbrev now_of : ℕ × ℕ → ℕ × ℕ × (ℕ × ℕ) × ℕ
now_of v = (0, 0, v, 0)

-- a version that was read from it
formed_in : (o : Option (ℕ × ℕ)) → IfSome (option_and_then (λ v. Some (now_of v)) o) (λ x. is_now_line x ≡ true) → IfSome o (λ v. is_version v ≡ true)
formed_in None p = tt
formed_in (Some v) p = (and_parts (is_version v) true p).0

back_in : (o : Option (ℕ × ℕ)) (v : ℕ × ℕ) → option_and_then (λ w. Some (now_of w)) o ≡ Some (now_of v) → o ≡ Some v
back_in None v e = absurd (none-some (now_of v) e)
back_in (Some w) v e = ap (λ n. Some n.2) (same_Some (now_of w) (now_of v) e)

-- the form of that line
now_formed : (v : ℕ × ℕ) → is_version v ≡ true → is_now_line (now_of v) ≡ true
now_formed v p = and_from (is_version v) true p refl

module _ (formed : (ws : List Text) → IfSome (now_in ws) (λ x. is_now_line x ≡ true)) (plain : (x : ℕ × ℕ × (ℕ × ℕ) × ℕ) → is_now_line x ≡ true → are_plain (now_line x) ≡ true)
    (back : (x : ℕ × ℕ × (ℕ × ℕ) × ℕ) → is_now_line x ≡ true → now_in (now_line x) ≡ Some x) where
  version_field : IsField is_version version_text version_of
  version_field =
      let zero_plain : is_plain (decimal 0) ≡ true = number_field.plain 0 refl in
      let zero_back : number_of (decimal 0) ≡ Some 0 = number_field.back 0 refl in
      record {
        plain = λ v p. (and_parts (is_plain (version_text v)) true (rw zero_plain at (plain (now_of v) (now_formed v p)))).0;
        formed = λ t. formed_in (version_of t) (formed (now_with t));
        back = λ v p. back_in (version_of (version_text v)) v (rw zero_back at (back (now_of v) (now_formed v p)));
      }

  -- ---- the first line

  head_parts : (x : ℕ × (ℕ × ℕ) × ℕ) → is_certificate_line x ≡ true → (is_u64 x.0 ≡ true) × (is_version x.1 ≡ true) × (is_u64 x.2 ≡ true)
  head_parts x p =
      let three = and_parts (is_u64 x.0 && is_version x.1) (is_u64 x.2) p in
      let two = and_parts (is_u64 x.0) (is_version x.1) three.0 in
      (two.0, two.1, three.1)

  pub head_formed : (ws : List Text) → IfSome (certificate_in ws) (λ x. is_certificate_line x ≡ true)
  head_formed ws =
      then_formed is_num (λ x. is_certificate_line x ≡ true) (number_of (word_at 2 ws)) _ (number_field.formed (word_at 2 ws)) (λ a p.
      then_formed (λ v. is_version v ≡ true) (λ x. is_certificate_line x ≡ true) (version_of (word_at 4 ws)) _ (version_field.formed (word_at 4 ws)) (λ v q.
      then_formed is_num (λ x. is_certificate_line x ≡ true) (number_of (word_at 6 ws)) _ (number_field.formed (word_at 6 ws)) (λ b r.
      and_from (is_u64 a && is_version v) (is_u64 b) (and_from (is_u64 a) (is_version v) p q) r)))

  pub head_plain : (x : ℕ × (ℕ × ℕ) × ℕ) → is_certificate_line x ≡ true → are_plain (certificate_line x) ≡ true
  head_plain x p =
      let is = head_parts x p in
      rw (number_field.plain x.0 is.0, version_field.plain x.1 is.1, number_field.plain x.2 is.2) refl

  pub head_back : (x : ℕ × (ℕ × ℕ) × ℕ) → is_certificate_line x ≡ true → certificate_in (certificate_line x) ≡ Some x
  head_back x p =
      let is = head_parts x p in
      rw (number_field.back x.0 is.0, version_field.back x.1 is.1, number_field.back x.2 is.2) refl
