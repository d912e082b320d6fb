-- Lines that are cut at their spaces.
use Rattle.std.proofs.Common.{◌≡◌, ◌≢◌, ℕ, zero, suc, ◌+◌, ◌<◌, ◌≤◌, ◌==◌, ◌++◌, Bool, true, false, ◌&&◌, nat_le, nat_lt, if◌then◌else◌, List, [], ◌∷◌, Some, None, IsAscii, length, get_or, map, set, take, Bor, refl, ap, sym, ◌∙◌, append-nil, append_assoc, true≢false, arith, lit<}
use Rattle.std.proofs.lemmas.Bool.{and_parts, le-leb, lt-leb, ltb-true, ne_eqb}
use Rattle.std.proofs.lemmas.List.{length-append, map-append, take_more_set}
use Rattle.std.proofs.lemmas.Str.{IsUtf8-from_ascii, IsUtf8-from_is_utf8, is_utf8-from_IsUtf8}
use Rattle.std.proofs.lemmas.Str.Ascii.{IsAscii-cons, IsAscii-nil}
use Rattle.std.specs.List.{list_all}
use Rattle.std.specs.Str.{IsUtf8, is_utf8}
use Rattle.text_model.specs.Words.{Text, spaced}
use Rattle.text_forms.specs.Lines.{joined}
use Rattle.line_kinds.specs.Cuts.{are_plain, cut, is_plain, is_plain_byte, most_words, with_first, words_in}

-- a word without spaces is one piece
pub cut_one : (w : Text) → ((i : ℕ) → i < length w → get_or w i 0 ≢ 32) → cut w ≡ w ∷ []
cut_one [] none = refl
cut_one (b ∷ bs) none =
    let here : (b == 32) ≡ false = ne_eqb b 32 (none 0 (omega arith)) in
    let later = cut_one bs (λ i less. none (suc i) (omega (arith, less))) in
    rw (here, later) refl

-- a word without spaces is the first piece before a space
pub cut_first : (w r : Text) → ((i : ℕ) → i < length w → get_or w i 0 ≢ 32) → cut (w ++ 32 ∷ r) ≡ w ∷ cut r
cut_first [] r none = refl
cut_first (b ∷ bs) r none =
    let here : (b == 32) ≡ false = ne_eqb b 32 (none 0 (omega arith)) in
    let later = cut_first bs r (λ i less. none (suc i) (omega (arith, less))) in
    rw (here, later) refl

-- ---- printed words

-- a plain byte is no space, and below 128
plain_byte : (b : ℕ) → is_plain_byte b ≡ true → (b ≢ 32) × (b < 128)
plain_byte b p =
    let both = and_parts (nat_lt 32 b) (nat_lt b 127) p in
    let low : 32 < b = ltb-true 32 b both.0 in
    let high : b < 127 = ltb-true b 127 both.1 in
    ((λ e. omega (arith, low, e)), omega (arith, high))

-- a plain word has no spaces
pub no_spaces : (w : Text) → is_plain w ≡ true → (i : ℕ) → i < length w → get_or w i 0 ≢ 32
no_spaces [] p i less = absurd (omega (arith, less))
no_spaces (b ∷ bs) p zero less = (plain_byte b (and_parts (is_plain_byte b) (is_plain bs) p).0).0
no_spaces (b ∷ bs) p (suc i) less = no_spaces bs (and_parts (is_plain_byte b) (is_plain bs) p).1 i (omega (arith, less))

-- its bytes are below 128, before others
ascii_before : (w r : Text) → is_plain w ≡ true → IsAscii r → IsAscii (w ++ r)
ascii_before [] r p is = is
ascii_before (b ∷ bs) r p is =
    let both = and_parts (is_plain_byte b) (is_plain bs) p in
    IsAscii-cons b (bs ++ r) (plain_byte b both.0).1 (ascii_before bs r both.1 is)

-- so are those of words with a space before each
spaced_ascii : (ws : List Text) → list_all is_plain ws ≡ true → IsAscii (spaced ws)
spaced_ascii [] p = IsAscii-nil
spaced_ascii (w ∷ ws) p =
    let both = and_parts (is_plain w) (list_all is_plain ws) p in
    IsAscii-cons 32 (w ++ spaced ws) (lit< tt) (ascii_before w (spaced ws) both.0 (spaced_ascii ws both.1))

-- plain words are cut apart again
cut_joined : (w : Text) (ws : List Text) → is_plain w ≡ true → list_all is_plain ws ≡ true → cut (joined (w ∷ ws)) ≡ w ∷ ws
cut_joined w [] p ps = ap cut (append-nil w) ∙ cut_one w (no_spaces w p)
cut_joined w (v ∷ vs) p ps =
    let both = and_parts (is_plain v) (list_all is_plain vs) ps in
    cut_first w (joined (v ∷ vs)) (no_spaces w p) ∙ ap (λ (t : List Text). w ∷ t) (cut_joined v vs both.0 both.1)

-- a line of plain words has these words
pub words_joined : (ws : List Text) → are_plain ws ≡ true → words_in (joined ws) ≡ Some ws
words_joined [] p = absurd (true≢false (sym p))
words_joined (w ∷ ws) p =
    let parts = and_parts (nat_le (length (w ∷ ws)) most_words) (list_all is_plain (w ∷ ws)) p in
    let both = and_parts (is_plain w) (list_all is_plain ws) parts.1 in
    let text : is_utf8 (joined (w ∷ ws)) ≡ true = is_utf8-from_IsUtf8 _ (IsUtf8-from_ascii _ (ascii_before w (spaced ws) both.0 (spaced_ascii ws both.1))) in
    rw (text, cut_joined w ws both.0 both.1, parts.0) refl

-- ---- the loop over the words

-- no word follows: the words are those before and the rest
pub last_word : (text rest : Text) (before : List Text) → is_utf8 text ≡ true → length before < 20 → before ++ cut rest ≡ cut text → ((i : ℕ) → i < length rest → get_or rest i 0 ≢ 32) → words_in text ≡ Some (before ++ rest ∷ [])
last_word text rest before is few all none =
    let whole : cut text ≡ before ++ rest ∷ [] = sym all ∙ ap (λ (t : List Text). before ++ t) (cut_one rest none) in
    let few' : length (before ++ rest ∷ []) ≤ 20 = omega (arith, few, length-append before (rest ∷ [])) in
    rw (is, whole, le-leb (length (before ++ rest ∷ [])) 20 few') refl

-- a piece, by whether a space comes first
some_by : (b : ℕ) (is : Bool) (ws : List Text) → 0 < length (if is then [] ∷ ws else with_first b ws)
some_by b true ws = omega arith
some_by b false [] = omega arith
some_by b false (w ∷ ws) = omega arith

and_false : (b : Bool) → (b && false) ≡ false
and_false true = refl
and_false false = refl

-- there is a piece in any case
cut_some : (text : Text) → 0 < length (cut text)
cut_some [] = omega arith
cut_some (b ∷ bs) = some_by b (b == 32) (cut bs)

-- too many words are none
pub too_many : (text rest : Text) (before : List Text) → length before ≡ 20 → before ++ cut rest ≡ cut text → words_in text ≡ None
too_many text rest before full all =
    let some = cut_some rest in
    let many : 20 < length (cut text) = omega (arith, full, some, ap length all, length-append before (cut rest)) in
    rw (lt-leb (length (cut text)) 20 many, and_false (is_utf8 text)) refl

no_words_by : (line : Text) (is : Bool) → is_utf8 line ≡ is → ¬ IsUtf8 line → (if is && nat_le (length (cut line)) most_words then Some (cut line) else None) ≡ None
no_words_by line true e none = absurd (none (IsUtf8-from_is_utf8 line e))
no_words_by line false e none = refl

-- bytes that are no text have none
pub no_words : (line : Text) → ¬ IsUtf8 line → words_in line ≡ None
no_words line none = no_words_by line (is_utf8 line) refl none

-- ---- words that were cut off

-- one more word was put behind them
pub more_words : (words : List (Bor Text)) (p : ℕ) (w : Bor Text) → p < length words → map (λ w. w.now) (take (p + 1) (set words p w)) ≡ map (λ w. w.now) (take p words) ++ w.now ∷ []
more_words words p w less = ap (map (λ (w : Bor Text). w.now)) (take_more_set words p w less) ∙ map-append (λ (w : Bor Text). w.now) (take p words) (w ∷ [])

-- a word was cut off the rest
pub next_word : (text rest word others : Text) (before : List Text) → before ++ cut rest ≡ cut text → rest ≡ word ++ 32 ∷ others → ((i : ℕ) → i < length word → get_or word i 0 ≢ 32) → (before ++ word ∷ []) ++ cut others ≡ cut text
next_word text rest word others before all is none =
    append_assoc before (word ∷ []) (cut others)
    ∙ ap (λ (t : List Text). before ++ t) (sym (ap cut is ∙ cut_first word others none))
    ∙ all
