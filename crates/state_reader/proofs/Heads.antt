-- The first line of a checkpoint tells its last number.
use Rattle.std.proofs.Common.{◌≡◌, ℕ, zero, suc, ◌+◌, ◌*◌, ◌/◌, ◌%◌, ◌^◌, ◌<◌, ◌≤◌, ◌==◌, ◌++◌, Bool, true, false, cond, nat_lt, List, [], ◌∷◌, Option, Some, None, codes, decimal, is_some, length, refl, ap, sym, ◌∙◌, arith, append-nil, append_assoc}
use Rattle.std.proofs.Math.Nat.{one-le-pow, pow-suc}
use Rattle.std.proofs.lemmas.Bool.{and_from, and_parts, false≢true, lt-ltb, ltb-false, ltb-true, ne_eqb}
use Rattle.std.proofs.lemmas.Fmt.{decimal_is_IsNumeral_wide, length-decimal-le}
use Rattle.std.proofs.lemmas.Option.{none-some}
use Rattle.std.proofs.lemmas.List.Folds.{list_all-append}
use Rattle.std.specs.Fmt.{digit_glyph, digits, digits_onto}
use Rattle.std.specs.List.{list_all}
use Rattle.std.specs.Str.Parse.{digits_value}
use Rattle.text_forms.specs.Lines.{joined}
use Rattle.text_model.specs.Words.{Text, spaced}
use Rattle.tx_records.specs.Limits.{is_u64}
use Rattle.line_giver.specs.Giving.{Giving, Sees, known_after, lines_of_giving}
use Rattle.line_kinds.specs.Kinds.{ReadsLine}
use Rattle.byte_lines.specs.declared.lines.Line.TheVariants.{Whole}
use Rattle.state_kinds.specs.Heads.{head_line, is_head_line}
use Rattle.state_reader.specs.Reads.{BeginsWith, IsHead}

-- ---- bytes

-- a byte above the space
abbrev is_visible : ℕ → Bool
is_visible b = nat_lt 32 b

-- a text of such bytes has no space
no_space : (w r : Text) → list_all is_visible (w ++ 32 ∷ r) ≡ true → ⊥
no_space w r h = false≢true (and_parts false (list_all is_visible r) (and_parts (list_all is_visible w) (list_all is_visible (32 ∷ r)) (sym (list_all-append is_visible w (32 ∷ r)) ∙ h)).1).0

-- the last words of two texts
last_same : (v w d e : Text) → list_all is_visible d ≡ true → list_all is_visible e ≡ true → v ++ 32 ∷ d ≡ w ++ 32 ∷ e → d ≡ e
last_same [] [] d e p q is = cc
last_same [] (c ∷ w) d e p q is = (let later : d ≡ w ++ 32 ∷ e = cc in absurd (no_space w e (sym (ap (list_all is_visible) later) ∙ p)))
last_same (b ∷ v) [] d e p q is = (let later : e ≡ v ++ 32 ∷ d = cc in absurd (no_space v d (sym (ap (list_all is_visible) later) ∙ q)))
last_same (b ∷ v) (c ∷ w) d e p q is = (let later : v ++ 32 ∷ d ≡ w ++ 32 ∷ e = cc in last_same v w d e p q later)

-- ---- numbers

glyph_visible : (d : ℕ) → is_visible (digit_glyph false d) ≡ true
glyph_visible d = elim (nat_lt d 10) as (λ b. is_visible (cond b (48 + d) (87 + d)) ≡ true) [
  | true ↦ lt-ltb 32 (48 + d) (omega arith)
  | false ↦ lt-ltb 32 (87 + d) (omega arith)
]

onto_visible : (k n : ℕ) (acc : Text) → list_all is_visible acc ≡ true → list_all is_visible (digits_onto k 10 false n acc) ≡ true
onto_visible zero n acc h = h
onto_visible (suc k) n acc h =
    let more : list_all is_visible (digit_glyph false (n % 10) ∷ acc) ≡ true = and_from (is_visible (digit_glyph false (n % 10))) (list_all is_visible acc) (glyph_visible (n % 10)) h in
    elim (n / 10 == 0) as (λ b. list_all is_visible (cond b (digit_glyph false (n % 10) ∷ acc) (digits_onto k 10 false (n / 10) (digit_glyph false (n % 10) ∷ acc))) ≡ true) [
      | true ↦ more
      | false ↦ onto_visible k (n / 10) (digit_glyph false (n % 10) ∷ acc) more
    ]

decimal_visible : (n : ℕ) → list_all is_visible (decimal n) ≡ true
unfolding digits
decimal_visible n = onto_visible 64 n [] refl

-- a number of more digits has all of them
onto_long : (k n : ℕ) (acc : Text) → 10 ^ k ≤ n → length (digits_onto k 10 false n acc) ≡ k + length acc
onto_long zero n acc h = omega arith
onto_long (suc k) n acc h =
    let least : 1 ≤ 10 ^ k = one-le-pow k 10 (omega arith) in
    let wide : 10 ^ k * 10 ≤ n = omega (arith, h, pow-suc 10 k) in
    let more : 10 ^ k ≤ n / 10 = omega (arith, wide) in
    let some : (n / 10 == 0) ≡ false = ne_eqb (n / 10) 0 (λ e. omega (arith, e, more, least)) in
    let later : length (digits_onto k 10 false (n / 10) (digit_glyph false (n % 10) ∷ acc)) ≡ k + length (digit_glyph false (n % 10) ∷ acc) = onto_long k (n / 10) (digit_glyph false (n % 10) ∷ acc) more in
    rw some (omega (arith, later))

decimal_long : (n : ℕ) → 10 ^ 64 ≤ n → length (decimal n) ≡ 64
unfolding digits
decimal_long n h = onto_long 64 n [] h

same_by : (b : Bool) (m n : ℕ) → nat_lt n (10 ^ 64) ≡ b → m < 2 ^ 64 → decimal m ≡ decimal n → m ≡ n
same_by true m n wide small is =
    sym (decimal_is_IsNumeral_wide m (omega (arith, small))).1 ∙ ap (digits_value 10) is ∙ (decimal_is_IsNumeral_wide n (ltb-true n (10 ^ 64) wide)).1
same_by false m n wide small is =
    let short : length (decimal m) ≤ 20 = length-decimal-le 20 m (omega arith) (omega (arith, small)) small in
    let long : length (decimal n) ≡ 64 = decimal_long n (ltb-false n (10 ^ 64) wide) in
    absurd (omega (arith, short, long, ap (λ (t : Text). length t) is))

-- a number of 64 bits has digits of its own
decimal_same : (m n : ℕ) → m < 2 ^ 64 → decimal m ≡ decimal n → m ≡ n
decimal_same m n small is = same_by (nat_lt n (10 ^ 64)) m n refl small is

-- ---- the line

spaced_last : (ws : List Text) (v : Text) → spaced (ws ++ v ∷ []) ≡ spaced ws ++ 32 ∷ v
spaced_last [] v = append-nil (32 ∷ v)
spaced_last (w ∷ ws) v = ap (λ (t : Text). (32 ∷ w) ++ t) (spaced_last ws v) ∙ sym (append_assoc (32 ∷ w) (spaced ws) (32 ∷ v))

joined_last : (w : Text) (ws : List Text) (v : Text) → joined (w ∷ ws ++ v ∷ []) ≡ joined (w ∷ ws) ++ 32 ∷ v
joined_last w ws v = ap (λ (t : Text). w ++ t) (spaced_last ws v) ∙ sym (append_assoc w (spaced ws) (32 ∷ v))

-- the words before the count
abbrev words_before : ℕ × ℕ × ℕ × ℕ → List Text
words_before h =
    codes "1" ∷ codes "line" ∷ decimal h.0 ∷ codes "network" ∷ decimal h.1 ∷ codes "length" ∷ decimal h.2 ∷ codes "counted" ∷ []

head_last : (h : ℕ × ℕ × ℕ × ℕ) → joined (head_line h) ≡ joined (codes "checkpoint" ∷ words_before h) ++ 32 ∷ decimal h.3
head_last h = joined_last (codes "checkpoint") (words_before h) (decimal h.3)

-- two first lines that are the same have the same count, if one of them fits in 64 bits
counted_same : (h g : ℕ × ℕ × ℕ × ℕ) → h.3 < 2 ^ 64 → joined (head_line h) ≡ joined (head_line g) → h.3 ≡ g.3
counted_same h g small is =
    decimal_same h.3 g.3 small (last_same (joined (codes "checkpoint" ∷ words_before h)) (joined (codes "checkpoint" ∷ words_before g)) (decimal h.3) (decimal g.3) (decimal_visible h.3) (decimal_visible g.3) (sym (head_last h) ∙ is ∙ head_last g))

-- ---- the line that is seen

first_known : (line first : Option Text) (after : Option (List (Option Text))) (more : List (Option Text)) → known_after (line ∷ []) after ≡ Some (first ∷ more) → line ≡ first
first_known line first None more is = absurd cc
first_known line first (Some ls) more is = cc

text_known : (g : Giving) (h : ℕ × ℕ × ℕ × ℕ) → Sees g Whole → BeginsWith (lines_of_giving g) h → g.text ≡ joined (head_line h)
text_known g h sees is =
    let same : Some g.text ≡ Some (joined (head_line h)) = first_known (Some g.text) (Some (joined (head_line h))) g.after is.0 (ap (λ (t : List (Option Text)). known_after t g.after) (sym sees.seen) ∙ is.1) in
    cc

-- by what the line read as
pub head_seen : (g : Giving) → Sees g Whole → (read : Option (ℕ × ℕ × ℕ × ℕ)) → ReadsLine is_head_line head_line g.text read → IsHead (lines_of_giving g) (is_some read)
head_seen g sees None reads = record {
  counted = λ e. absurd (false≢true e);
  all = λ h form is. absurd (none-some h (reads.all h (record { form = form; text = text_known g h sees is })));
}
head_seen g sees (Some x) reads = record {
  counted = λ e h is.
      let line = reads.some x refl in
      let fits : x.3 < 2 ^ 64 = ltb-true x.3 (2 ^ 64) (and_parts _ (is_u64 x.3) line.form).1 in
      let same = counted_same x h fits (sym line.text ∙ text_known g h sees is) in
      ap is_u64 (sym same) ∙ lt-ltb x.3 (2 ^ 64) fits;
  all = λ h form is. refl;
}
