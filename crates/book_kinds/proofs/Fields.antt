-- The words of ids and numbers: they have no spaces, read as what they are printed from,
-- and what they read as has the form.
use Rattle.std.proofs.Common.{◌≡◌, ℕ, zero, suc, ◌-◌, ◌<◌, ◌≤◌, ◌^◌, ◌++◌, ◌==◌, Bool, true, false, ◌&&◌, if◌then◌else◌, nat_le, nat_lt, List, [], ◌∷◌, Option, Some, None, Result, Ok, Err, IsOk, IfSome, is_some, bytes_eq, codes, decimal, length, option_map, refl, ap, sym, ◌∙◌, true≢false, rules, arith, inl, inr, lit<, eqb-true, eq-eqb}
use Rattle.std.proofs.lemmas.Bool.{and_from, and_parts, cases_Bool, leb-true, le-leb, ltb-true, lt-ltb}
use Rattle.std.proofs.lemmas.Fmt.{decimal_nonempty, digits_decimal, digits_value-decimal, length-decimal-le}
use Rattle.std.proofs.lemmas.Option.{none-some}
use Rattle.std.proofs.lemmas.Slice.Eq.{bytes_eq-Decides}
use Rattle.std.proofs.lemmas.Str.Parse.{IsNumeralModel, numerals_by_value}
use Rattle.std.specs.Char.{is_ascii_digit}
use Rattle.std.specs.List.{AllPass, list_all}
use Rattle.std.specs.Option.{option_and_then}
use Rattle.std.specs.Result.{result_ok}
use Rattle.std.specs.Str.Parse.{digits_value}
use Rattle.hex.specs.Hex.{IsBytes, is_hex_digit}
use Rattle.maps.specs.Words.{none_or}
use Rattle.gov_ids.specs.declared.IdFault.{IdFault}
use Rattle.gov_ids.specs.Laws.{IsHash}
use Rattle.gov_ids.specs.Spelling.{hash_of, hash_text}
use Rattle.gov_ids.proofs.HashLemmas.{hash_of_ok}
use Rattle.gov_ids.proofs.HexCase.{hash_of-hash_text, hash_of-read}
use Rattle.text_forms.specs.Ids.{is_hash}
use Rattle.text_model.specs.Words.{Text, or_none}
use Rattle.tx_records.specs.Limits.{is_u64}
use Rattle.line_kinds.specs.Cuts.{is_plain, is_plain_byte}
use Rattle.line_kinds.specs.Numbers.{number_of}
use Rattle.book_kinds.specs.Words.{or_none_of}

-- what is known of a kind of word
pub record IsField {A : Type 0} (form : A → Bool) (text : A → Text) (reading : Text → Option A) : Type 0 where
  pub plain : (x : A) → form x ≡ true → is_plain (text x) ≡ true
  pub formed : (t : Text) → IfSome (reading t) (λ x. form x ≡ true)
  pub back : (x : A) → form x ≡ true → reading (text x) ≡ Some x

-- ---- steps

-- a value and then another
pub then_formed : {A B : Type 0} (P : A → Type 0) (Q : B → Type 0) (o : Option A) (f : A → Option B) → IfSome o P → ((x : A) → P x → IfSome (f x) Q) → IfSome (option_and_then f o) Q
then_formed P Q None f p next = tt
then_formed P Q (Some x) f p next = next x p

-- a value in another
pub map_formed : {A B : Type 0} (P : A → Type 0) (Q : B → Type 0) (o : Option A) (f : A → B) → IfSome o P → ((x : A) → P x → Q (f x)) → IfSome (option_map f o) Q
map_formed P Q None f p next = tt
map_formed P Q (Some x) f p next = next x p

-- plain words together are plain
pub plain_both : (xs ys : Text) → is_plain xs ≡ true → is_plain ys ≡ true → is_plain (xs ++ ys) ≡ true
plain_both [] ys p q = q
plain_both (x ∷ xs) ys p q =
    let both = and_parts (is_plain_byte x) (is_plain xs) p in
    and_from (is_plain_byte x) (is_plain (xs ++ ys)) both.0 (plain_both xs ys both.1 q)

-- bytes of which each is one of these
plain_from : (test : ℕ → Bool) → ((b : ℕ) → test b ≡ true → is_plain_byte b ≡ true) → (t : Text) → list_all test t ≡ true → is_plain t ≡ true
plain_from test each [] p = refl
plain_from test each (b ∷ bs) p =
    let both = and_parts (test b) (list_all test bs) p in
    and_from (is_plain_byte b) (is_plain bs) (each b both.0) (plain_from test each bs both.1)

-- a byte above 32 and below 127
byte_between : (b : ℕ) → 32 < b → b < 127 → is_plain_byte b ≡ true
byte_between b low high = and_from (nat_lt 32 b) (nat_lt b 127) (lt-ltb 32 b low) (lt-ltb b 127 high)

-- ---- numbers

digit_plain : (b : ℕ) → is_ascii_digit b ≡ true → is_plain_byte b ≡ true
digit_plain b p =
    let both = and_parts (nat_le 48 b) (nat_le b 57) p in
    let low : 48 ≤ b = leb-true 48 b both.0 in
    let high : b ≤ 57 = leb-true b 57 both.1 in
    byte_between b (omega (arith, low)) (omega (arith, high))

pub number_small : (n : ℕ) → is_u64 n ≡ true → n < 2 ^ 64
number_small n p = ltb-true n (2 ^ 64) p

-- digits, as a test and as a number
pub own : IsNumeralModel (λ ds. list_all is_ascii_digit ds ≡ true) (digits_value 10)
own = numerals_by_value _ (search rules)

number_back : (n : ℕ) → is_u64 n ≡ true → number_of (decimal n) ≡ Some n
number_back n p =
    let small = number_small n p in
    let some : 1 ≤ length (decimal n) = omega (arith, decimal_nonempty n small) in
    let wide : n < 10 ^ 20 = omega (arith, small) in
    let few : length (decimal n) ≤ 20 = length-decimal-le 20 n (omega arith) wide small in
    rw (le-leb 1 (length (decimal n)) some, le-leb (length (decimal n)) 20 few, digits_decimal own n small, digits_value-decimal own n small, p) refl

number_formed_by : (v : ℕ) (b c : Bool) → nat_lt v (2 ^ 64) ≡ c → IfSome (if b then (if c then Some v else None) else None) (λ n. is_u64 n ≡ true)
number_formed_by v false c e = tt
number_formed_by v true false e = tt
number_formed_by v true true e = e

pub number_plain : (n : ℕ) → n < 2 ^ 64 → is_plain (decimal n) ≡ true
number_plain n small = plain_from is_ascii_digit digit_plain (decimal n) (digits_decimal own n small)

pub number_field : IsField is_u64 decimal number_of
number_field = record {
  plain = λ n p. number_plain n (number_small n p);
  formed = λ t. number_formed_by (digits_value 10 t) _ (nat_lt (digits_value 10 t) (2 ^ 64)) refl;
  back = number_back;
}

-- ---- hashes

-- bytes below 256, by a test and by index
bytes_from : (h : List ℕ) → list_all (λ b. nat_lt b 256) h ≡ true → IsBytes h
bytes_from [] p zero = lit< tt
bytes_from [] p (suc i) = lit< tt
bytes_from (b ∷ bs) p zero = ltb-true b 256 (and_parts (nat_lt b 256) (list_all (λ c. nat_lt c 256) bs) p).0
bytes_from (b ∷ bs) p (suc i) = bytes_from bs (and_parts (nat_lt b 256) (list_all (λ c. nat_lt c 256) bs) p).1 i

bytes_test : (h : List ℕ) → IsBytes h → list_all (λ b. nat_lt b 256) h ≡ true
bytes_test [] is = refl
bytes_test (b ∷ bs) is = and_from (nat_lt b 256) (list_all (λ c. nat_lt c 256) bs) (lt-ltb b 256 (is zero)) (bytes_test bs (λ i. is (suc i)))

pub hash_from : (n : ℕ) (h : List ℕ) → is_hash n h ≡ true → IsHash n h
hash_from n h p =
    let both = and_parts (length h == n) (list_all (λ b. nat_lt b 256) h) p in
    (eqb-true (length h) n both.0, bytes_from h both.1)

pub hash_test : (n : ℕ) (h : List ℕ) → IsHash n h → is_hash n h ≡ true
hash_test n h is = and_from (length h == n) (list_all (λ b. nat_lt b 256) h) (eq-eqb (length h) n is.0) (bytes_test h is.1)

within : (low b high : ℕ) → (nat_le low b && nat_le b high) ≡ true → 32 < low → high < 127 → is_plain_byte b ≡ true
within low b high p l h =
    let both = and_parts (nat_le low b) (nat_le b high) p in
    let from : low ≤ b = leb-true low b both.0 in
    let to : b ≤ high = leb-true b high both.1 in
    byte_between b (omega (arith, from, l)) (omega (arith, to, h))

hex_plain_by : (b : ℕ) (u l d : Bool) → (nat_le 65 b && nat_le b 70) ≡ u → (nat_le 97 b && nat_le b 102) ≡ l → (nat_le 48 b && nat_le b 57) ≡ d
    → is_some (if u then Some (b - 55) else if l then Some (b - 87) else if d then Some (b - 48) else None) ≡ true → is_plain_byte b ≡ true
hex_plain_by b true l d e f g p = within 65 b 70 e (lit< tt) (lit< tt)
hex_plain_by b false true d e f g p = within 97 b 102 f (lit< tt) (lit< tt)
hex_plain_by b false false true e f g p = within 48 b 57 g (lit< tt) (lit< tt)
hex_plain_by b false false false e f g p = absurd (true≢false (sym p))

hex_plain : (b : ℕ) → is_hex_digit b ≡ true → is_plain_byte b ≡ true
hex_plain b p = hex_plain_by b (nat_le 65 b && nat_le b 70) (nat_le 97 b && nat_le b 102) (nat_le 48 b && nat_le b 57) refl refl refl p

all_pass : (t : Text) → AllPass is_hex_digit t → is_plain t ≡ true
all_pass [] p = refl
all_pass (b ∷ bs) p = and_from (is_plain_byte b) (is_plain bs) (hex_plain b (p zero 0 (omega arith))) (all_pass bs (λ i d less. p (suc i) d (omega (arith, less))))

-- a result that is there
pub ok_of : {A E : Type 0} (r : Result A E) (x : A) → r ≡ Ok x → IsOk r
ok_of r x e = rw e refl

pub hash_plain : (n : ℕ) (h : List ℕ) → is_hash n h ≡ true → is_plain (hash_text h) ≡ true
hash_plain n h p = all_pass (hash_text h) ((hash_of_ok n (hash_text h)).0 (ok_of _ h (hash_of-hash_text n h (hash_from n h p)))).1

hash_formed : (n : ℕ) (t : Text) (r : Result (List ℕ) IdFault) → hash_of n t ≡ r → IfSome (result_ok r) (λ h. is_hash n h ≡ true)
hash_formed n t (Ok h) e = hash_test n h (hash_of-read n t h e).0
hash_formed n t (Err f) e = tt

pub hash_field : (n : ℕ) → IsField (is_hash n) hash_text (λ t. result_ok (hash_of n t))
hash_field n = record {
  plain = hash_plain n;
  formed = λ t. hash_formed n t (hash_of n t) refl;
  back = λ h p. ap result_ok (hash_of-hash_text n h (hash_from n h p));
}

-- ---- none, or another word

-- a word that does not read is none of the texts
pub not_word : {A : Type 0} {form : A → Bool} {text : A → Text} {reading : Text → Option A} → IsField form text reading → (w : Text) → reading w ≡ None → (x : A) → form x ≡ true → bytes_eq (text x) w ≡ false
not_word {text = text} {reading = reading} field w unread x p =
    elim (cases_Bool (bytes_eq (text x) w)) [
      | inl same ↦ absurd (none-some x (sym unread ∙ ap reading (sym ((bytes_eq-Decides (text x) w).0 same)) ∙ field.back x p))
      | inr other ↦ other
    ]

or_none_plain : {A : Type 0} {form : A → Bool} {text : A → Text} {reading : Text → Option A} → IsField form text reading → (o : Option A) → none_or form o ≡ true → is_plain (or_none text o) ≡ true
or_none_plain field None p = refl
or_none_plain field (Some x) p = field.plain x p

pub or_none_formed : {A : Type 0} (form : A → Bool) (o : Option A) (is : Bool) → IfSome o (λ x. form x ≡ true) → IfSome (if is then Some None else option_map Some o) (λ x. none_or form x ≡ true)
or_none_formed form o true p = refl
or_none_formed form None false p = tt
or_none_formed form (Some x) false p = p

or_none_back : {A : Type 0} {form : A → Bool} {text : A → Text} {reading : Text → Option A} → IsField form text reading → reading (codes "none") ≡ None → (o : Option A) → none_or form o ≡ true → or_none_of reading (or_none text o) ≡ Some o
or_none_back field unread None p = refl
or_none_back field unread (Some x) p = rw (not_word field (codes "none") unread x p, field.back x p) refl

pub or_none_field : {A : Type 0} {form : A → Bool} {text : A → Text} {reading : Text → Option A} → IsField form text reading → reading (codes "none") ≡ None → IsField (none_or form) (or_none text) (or_none_of reading)
or_none_field {A} {form} {text} {reading} field unread = record {
  plain = or_none_plain field;
  formed = λ t. or_none_formed form (reading t) (bytes_eq t (codes "none")) (field.formed t);
  back = or_none_back field unread;
}
