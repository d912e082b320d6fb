-- The laws of a checkpoint's first line and of the line of where the chain is.
use Rattle.std.proofs.Common.{◌≡◌, ℕ, ◌<◌, ◌^◌, ◌++◌, Bool, true, false, ◌&&◌, if◌then◌else◌, nat_lt, List, Some, None, IfSome, codes, decimal, refl, ap, ◌∙◌, arith, lit<}
use Rattle.std.proofs.lemmas.Bool.{and_from, and_parts, lt-ltb, ltb-true}
use Rattle.std.proofs.lemmas.Fmt.{digits_decimal}
use Rattle.std.proofs.lemmas.List.{append_assoc}
use Rattle.text_forms.specs.Actions.{is_version}
use Rattle.text_model.specs.Words.{Text, version_text}
use Rattle.tx_records.specs.Limits.{is_u32, is_u64}
use Rattle.line_kinds.specs.Cuts.{are_plain, is_plain, word_at}
use Rattle.line_kinds.specs.Numbers.{number_of}
use Rattle.book_kinds.specs.Pools.{halves}
use Rattle.book_kinds.proofs.Fields.{IsField, number_field, number_small, own, plain_both, then_formed}
use Rattle.book_kinds.proofs.Shares.{any_halves, digits_free, halves_cut}
use Rattle.state_kinds.specs.Heads.{head_in, head_line, is_head_line, is_now_line, now_in, now_line, u32_of, version_of}

abbrev is_num : ℕ → Type 0
is_num n = is_u64 n ≡ true

-- ---- numbers of 32 bits

wide : (n : ℕ) → is_u32 n ≡ true → is_u64 n ≡ true
wide n p =
    let small : n < 2 ^ 32 = ltb-true n (2 ^ 32) p in
    let few : n < 2 ^ 64 = omega (arith, small) in
    lt-ltb n (2 ^ 64) few

u32_made : (n : ℕ) (is : Bool) → nat_lt n (2 ^ 32) ≡ is → IfSome (if is then Some n else None) (λ n. is_u32 n ≡ true)
u32_made n true e = e
u32_made n false e = tt

u32_field : IsField is_u32 decimal u32_of
u32_field = record {
  plain = λ n p. number_field.plain n (wide n p);
  formed = λ t. then_formed is_num (λ n. is_u32 n ≡ true) (number_of t) _ (number_field.formed t) (λ n q. u32_made n (nat_lt n (2 ^ 32)) refl);
  back = λ n p. rw (number_field.back n (wide n p), p) refl;
}

-- ---- versions

version_plain : (v : ℕ × ℕ) → is_version v ≡ true → is_plain (version_text v) ≡ true
version_plain v p =
    let is = and_parts (is_u32 v.0) (is_u32 v.1) p in
    plain_both (decimal v.0 ++ codes ".") (decimal v.1) (plain_both (decimal v.0) (codes ".") (u32_field.plain v.0 is.0) refl) (u32_field.plain v.1 is.1)

version_back : (v : ℕ × ℕ) → is_version v ≡ true → version_of (version_text v) ≡ Some v
version_back v p =
    let is = and_parts (is_u32 v.0) (is_u32 v.1) p in
    let cut : halves 46 (version_text v) ≡ Some (decimal v.0, decimal v.1) =
    ap (halves 46) (append_assoc (decimal v.0) (codes ".") (decimal v.1)) ∙ halves_cut 46 (decimal v.0) (decimal v.1) (digits_free 46 (decimal v.0) (lit< tt) (digits_decimal own v.0 (number_small v.0 (wide v.0 is.0)))) in
    rw (cut, u32_field.back v.0 is.0, u32_field.back v.1 is.1) refl

version_formed : (t : Text) → IfSome (version_of t) (λ v. is_version v ≡ true)
version_formed t =
    then_formed (λ h. true ≡ true) (λ v. is_version v ≡ true) (halves 46 t) _ (any_halves (halves 46 t)) (λ h u.
    then_formed (λ n. is_u32 n ≡ true) (λ v. is_version v ≡ true) (u32_of h.0) _ (u32_field.formed h.0) (λ a p.
    then_formed (λ n. is_u32 n ≡ true) (λ v. is_version v ≡ true) (u32_of h.1) _ (u32_field.formed h.1) (λ b q. and_from (is_u32 a) (is_u32 b) p q)))

version_field : IsField is_version version_text version_of
version_field = record { plain = version_plain; formed = version_formed; back = version_back }

-- ---- where the chain is

now_parts : (x : ℕ × ℕ × (ℕ × ℕ) × ℕ) → is_now_line x ≡ true → (is_u64 x.0 ≡ true) × (is_u64 x.1 ≡ true) × (is_version x.2 ≡ true) × (is_u64 x.3 ≡ true)
now_parts x p =
    let four = and_parts (is_u64 x.0 && is_u64 x.1 && is_version x.2) (is_u64 x.3) p in
    let three = and_parts (is_u64 x.0 && is_u64 x.1) (is_version x.2) four.0 in
    let two = and_parts (is_u64 x.0) (is_u64 x.1) three.0 in
    (two.0, two.1, three.1, four.1)

pub now_formed : (ws : List Text) → IfSome (now_in ws) (λ x. is_now_line x ≡ true)
now_formed ws =
    then_formed is_num (λ x. is_now_line x ≡ true) (number_of (word_at 2 ws)) _ (number_field.formed (word_at 2 ws)) (λ a p.
    then_formed is_num (λ x. is_now_line x ≡ true) (number_of (word_at 4 ws)) _ (number_field.formed (word_at 4 ws)) (λ b q.
    then_formed (λ v. is_version v ≡ true) (λ x. is_now_line x ≡ true) (version_of (word_at 6 ws)) _ (version_formed (word_at 6 ws)) (λ v r.
    then_formed is_num (λ x. is_now_line x ≡ true) (number_of (word_at 8 ws)) _ (number_field.formed (word_at 8 ws)) (λ d s.
    and_from (is_u64 a && is_u64 b && is_version v) (is_u64 d) (and_from (is_u64 a && is_u64 b) (is_version v) (and_from (is_u64 a) (is_u64 b) p q) r) s))))

pub now_plain : (x : ℕ × ℕ × (ℕ × ℕ) × ℕ) → is_now_line x ≡ true → are_plain (now_line x) ≡ true
now_plain x p =
    let is = now_parts x p in
    rw (number_field.plain x.0 is.0, number_field.plain x.1 is.1, version_field.plain x.2 is.2, number_field.plain x.3 is.3) refl

pub now_back : (x : ℕ × ℕ × (ℕ × ℕ) × ℕ) → is_now_line x ≡ true → now_in (now_line x) ≡ Some x
now_back x p =
    let is = now_parts x p in
    rw (number_field.back x.0 is.0, number_field.back x.1 is.1, version_field.back x.2 is.2, number_field.back x.3 is.3) refl

-- ---- the first line of a checkpoint

head_parts : (x : ℕ × ℕ × ℕ × ℕ) → is_head_line x ≡ true → (is_u64 x.0 ≡ true) × (is_u64 x.1 ≡ true) × (is_u64 x.2 ≡ true) × (is_u64 x.3 ≡ true)
head_parts x p =
    let four = and_parts (is_u64 x.0 && is_u64 x.1 && is_u64 x.2) (is_u64 x.3) p in
    let three = and_parts (is_u64 x.0 && is_u64 x.1) (is_u64 x.2) four.0 in
    let two = and_parts (is_u64 x.0) (is_u64 x.1) three.0 in
    (two.0, two.1, three.1, four.1)

pub head_formed : (ws : List Text) → IfSome (head_in ws) (λ x. is_head_line x ≡ true)
head_formed ws =
    then_formed is_num (λ x. is_head_line x ≡ true) (number_of (word_at 3 ws)) _ (number_field.formed (word_at 3 ws)) (λ a p.
    then_formed is_num (λ x. is_head_line x ≡ true) (number_of (word_at 5 ws)) _ (number_field.formed (word_at 5 ws)) (λ b q.
    then_formed is_num (λ x. is_head_line x ≡ true) (number_of (word_at 7 ws)) _ (number_field.formed (word_at 7 ws)) (λ c r.
    then_formed is_num (λ x. is_head_line x ≡ true) (number_of (word_at 9 ws)) _ (number_field.formed (word_at 9 ws)) (λ d s.
    and_from (is_u64 a && is_u64 b && is_u64 c) (is_u64 d) (and_from (is_u64 a && is_u64 b) (is_u64 c) (and_from (is_u64 a) (is_u64 b) p q) r) s))))

pub head_plain : (x : ℕ × ℕ × ℕ × ℕ) → is_head_line x ≡ true → are_plain (head_line x) ≡ true
head_plain x p =
    let is = head_parts x p in
    rw (number_field.plain x.0 is.0, number_field.plain x.1 is.1, number_field.plain x.2 is.2, number_field.plain x.3 is.3) refl

pub head_back : (x : ℕ × ℕ × ℕ × ℕ) → is_head_line x ≡ true → head_in (head_line x) ≡ Some x
head_back x p =
    let is = head_parts x p in
    rw (number_field.back x.0 is.0, number_field.back x.1 is.1, number_field.back x.2 is.2, number_field.back x.3 is.3) refl
