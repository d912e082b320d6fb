-- Texts without line feeds: numbers, hashes, and words with spaces between them.
use Rattle.std.proofs.Common.{◌≡◌, ℕ, zero, suc, ◌+◌, ◌/◌, ◌%◌, ◌==◌, ◌≤◌, ◌++◌, ◌||◌, Option, Some, None, true, false, cond, nat_lt, List, [], ◌∷◌, decimal, flat_map, length, map, refl, ap, ◌∙◌, arith}
use Rattle.std.specs.Fmt.{digit_glyph, digits, digits_onto}
use Rattle.std.specs.List.{AllByRecursion, join_by, list_any}
use Rattle.std.specs.Prelude.{slice_index}
use Rattle.std.proofs.lemmas.Bool.{ne_eqb, or_parts}
use Rattle.hex.specs.Hex.{encode_with, lower_digits}
use Rattle.gov_ids.specs.Spelling.{hash_text}
use Rattle.byte_lines.specs.Pieces.{has_feed}
use Rattle.byte_lines.proofs.PieceLemmas.{has_feed-append}
use Rattle.text_forms.specs.Lines.{joined, joined_lines}
use Rattle.text_forms.specs.of_text_model.Words.{Text, or_none}

-- no byte of a text is a line feed
abbrev pub IsFree : Text → Type 0
IsFree t = has_feed t ≡ false

-- nor one of several texts
abbrev pub AllFree : List Text → Type 0
AllFree ts = AllByRecursion IsFree ts

-- a byte before a text
pub before : (b : ℕ) (t : Text) → (b == 10) ≡ false → IsFree t → IsFree (b ∷ t)
before b t h k = rw h k

-- ---- numbers

glyph : (d : ℕ) → (digit_glyph false d == 10) ≡ false
glyph d =
    elim (nat_lt d 10) as (λ b. (cond b (48 + d) (87 + d) == 10) ≡ false) [
      | true ↦ ne_eqb (48 + d) 10 (λ e. omega (arith, e))
      | false ↦ ne_eqb (87 + d) 10 (λ e. omega (arith, e))
    ]

digits_free : (k n : ℕ) (t : Text) → IsFree t → IsFree (digits_onto k 10 false n t)
digits_free zero n t h = h
digits_free (suc k) n t h =
    let more : IsFree (digit_glyph false (n % 10) ∷ t) = before (digit_glyph false (n % 10)) t (glyph (n % 10)) h in
    elim (n / 10 == 0) as (λ b. IsFree (cond b (digit_glyph false (n % 10) ∷ t) (digits_onto k 10 false (n / 10) (digit_glyph false (n % 10) ∷ t)))) [
      | true ↦ more
      | false ↦ digits_free k (n / 10) (digit_glyph false (n % 10) ∷ t) more
    ]

pub dec : (n : ℕ) → IsFree (decimal n)
unfolding digits
dec n = digits_free 64 n [] refl

digits_few : (k n : ℕ) (t : Text) → length (digits_onto k 10 false n t) ≤ k + length t
digits_few zero n t = omega arith
digits_few (suc k) n t =
    elim (n / 10 == 0) as (λ b. length (cond b (digit_glyph false (n % 10) ∷ t) (digits_onto k 10 false (n / 10) (digit_glyph false (n % 10) ∷ t))) ≤ suc k + length t) [
      | true ↦ omega arith
      | false ↦ omega (arith, digits_few k (n / 10) (digit_glyph false (n % 10) ∷ t))
    ]

-- a number is written with 64 digits at most
pub dec_few : (n : ℕ) → length (decimal n) ≤ 64
unfolding digits
dec_few n = omega (arith, digits_few 64 n [])

-- ---- hashes

-- a byte of a text, or 0 past its end
byte_of : (t : Text) (k : ℕ) → IsFree t → (slice_index t k == 10) ≡ false
byte_of [] k h = refl
byte_of (b ∷ t) zero h = (or_parts (b == 10) (has_feed t) h).0
byte_of (b ∷ t) (suc k) h = byte_of t k (or_parts (b == 10) (has_feed t) h).1

pub hash : (h : List ℕ) → IsFree (hash_text h)
unfolding encode_with
hash [] = refl
hash (b ∷ h) =
    before (slice_index lower_digits (b / 16)) (slice_index lower_digits (b % 16) ∷ hash_text h) (byte_of lower_digits (b / 16) refl)
    (before (slice_index lower_digits (b % 16)) (hash_text h) (byte_of lower_digits (b % 16) refl) (hash h))

-- ---- texts together

pub both : (s t : Text) → IsFree s → IsFree t → IsFree (s ++ t)
both s t h k = has_feed-append s t h k

pub flat : {A : Type 0} (f : A → Text) → ((x : A) → IsFree (f x)) → (xs : List A) → IsFree (flat_map f xs)
flat f each [] = refl
flat f each (x ∷ xs) = both (f x) (flat_map f xs) (each x) (flat f each xs)

-- each item, with a separator between each two
pub join : {A : Type 0} (f : A → Text) (between : Text) → IsFree between → ((x : A) → IsFree (f x)) → (xs : List A) → IsFree (join_by f between xs)
join f between b each [] = refl
join f between b each (x ∷ xs) = both (f x) _ (each x) (flat (λ y. between ++ f y) (λ y. both between (f y) b (each y)) xs)

-- texts, with a separator between each two
pub join_texts : (between : Text) → IsFree between → (ts : List Text) → AllFree ts → IsFree (join_by (λ t. t) between ts)
join_texts between b [] h = refl
join_texts between b (t ∷ ts) h = both t _ h.0 (rest ts h.1)
  where
    rest : (us : List Text) → AllFree us → IsFree (flat_map (λ u. between ++ u) us)
    rest [] k = refl
    rest (u ∷ us) k = both (between ++ u) (flat_map (λ v. between ++ v) us) (both between u b k.0) (rest us k.1)

-- an option, or the word that there is none
pub optional : {A : Type 0} (f : A → Text) → ((x : A) → IsFree (f x)) → (o : Option A) → IsFree (or_none f o)
optional f each None = refl
optional f each (Some x) = each x

-- ---- lists, part by part

-- what holds of each item, as a fact that shows the items
pub record Each {A : Type 0} (P : A → Type 0) (xs : List A) : Type 0 where
  pub all : AllByRecursion P xs

pub all_both : {A : Type 0} (P : A → Type 0) (xs ys : List A) → AllByRecursion P xs → AllByRecursion P ys → AllByRecursion P (xs ++ ys)
all_both P [] ys h k = k
all_both P (x ∷ xs) ys h k = (h.0, all_both P xs ys h.1 k)

-- of more items
infixl 10 ◌⊕◌
pub ◌⊕◌ : {A : Type 0} {P : A → Type 0} {xs ys : List A} → Each P xs → Each P ys → Each P (xs ++ ys)
◌⊕◌ {A} {P} {xs} {ys} h k = record { all = all_both P xs ys h.all k.all }

-- of one item
pub one : {A : Type 0} (P : A → Type 0) (x : A) → P x → Each P (x ∷ [])
one P x h = record { all = (h, tt) }

-- ---- lines of words

abbrev pub Lines : List (List Text) → Type 0
Lines lines = Each AllFree lines

pub row : (ws : List Text) → AllFree ws → Lines (ws ∷ [])
row ws h = one AllFree ws h

module _ {A : Type 0} where
  -- a line for each item
  pub lines_map : (f : A → List Text) → ((x : A) → AllFree (f x)) → (xs : List A) → Lines (map f xs)
  lines_map f each [] = record { all = tt }
  lines_map f each (x ∷ xs) = record { all = (each x, (lines_map f each xs).all) }

  -- lines for each item
  pub lines_flat : (f : A → List (List Text)) → ((x : A) → Lines (f x)) → (xs : List A) → Lines (flat_map f xs)
  lines_flat f each [] = record { all = tt }
  lines_flat f each (x ∷ xs) = each x ⊕ lines_flat f each xs

-- no line has a line feed
pub no_feeds : (lines : List (List Text)) → AllByRecursion AllFree lines → list_any has_feed (joined_lines lines) ≡ false
no_feeds [] h = refl
no_feeds (ws ∷ lines) h =
    let first : has_feed (joined ws) ≡ false = join_texts (32 ∷ []) refl ws h.0 in
    ap (λ b. b || list_any has_feed (joined_lines lines)) first ∙ no_feeds lines h.1
