-- The lexemes of a text take no more bytes than it has.
use Rattle.std.proofs.Common.{◌≡◌, ℕ, zero, suc, ◌+◌, ◌-◌, ◌≤◌, ◌==◌, Bool, true, false, cond, ◌&&◌, List, [], ◌∷◌, ◌++◌, length, nat_lt, take, Option, Some, None, option_and_then, refl, ap, sym, subst, ◌∙◌, arith}
use Rattle.std.specs.List.{AllByRecursion}
use Rattle.std.specs.Char.{encode_utf8, is_digit}
use Rattle.std.proofs.lemmas.Bool.{and_parts, eqb-true, false≢true}
use Rattle.std.proofs.lemmas.List.{length-append, length-take}
use Rattle.std.proofs.lemmas.Option.{none-some}
use Rattle.json.specs.Ascii as ascii
use Rattle.json.specs.Lex.{Class, Lexeme, Mode, backslash, between, class, colon, comma, in_escape, in_string, in_word, lex, lex_byte, operator, operator_lexeme, other, quote, space, string_token, token}
use Rattle.json.specs.Text.{Within, after_backslash, after_high, after_u, code_unit, content, is_high_surrogate, is_low_surrogate, plain, prepend, short_escape, surrogate_pair}
use Rattle.json.specs.Token.{Token}
use Rattle.json.specs.Token as tokens
use Rattle.json.specs.Word.{after_number, ends_word, head, is_operator, is_space, literal, number_before, word}
use Rattle.json_lengths.proofs.Words.{FollowsSome, IsOther, number_follows}

-- how many bytes a token takes
abbrev pub token_size : Token → ℕ
token_size tokens.begin_object = 1
token_size tokens.end_object = 1
token_size tokens.begin_array = 1
token_size tokens.end_array = 1
token_size (tokens.key s) = length s + 3
token_size (tokens.string s) = length s + 2
token_size (tokens.number s) = length s
token_size (tokens.boolean b) = 0
token_size tokens.null = 0
token_size tokens.bad = 0

abbrev pub lexeme_size : Lexeme → ℕ
lexeme_size (token t) = token_size t
lexeme_size comma = 1
lexeme_size colon = 1

abbrev pub lexed : List Lexeme → ℕ
lexed [] = 0
lexed (l ∷ ls) = lexeme_size l + lexed ls

-- ---- operators

operator_small : (x : ℕ) → lexeme_size (operator_lexeme x) ≤ 1
operator_small x =
    small_by (x == ascii.open_brace) (x == ascii.close_brace) (x == ascii.open_bracket) (x == ascii.close_bracket) (x == ascii.comma)
  where
    small_by : (a b c d e : Bool) → lexeme_size (cond a (token tokens.begin_object) (cond b (token tokens.end_object) (cond c (token tokens.begin_array) (cond d (token tokens.end_array) (cond e comma colon))))) ≤ 1
    small_by true b c d e = omega arith
    small_by false true c d e = omega arith
    small_by false false true d e = omega arith
    small_by false false false true e = omega arith
    small_by false false false false true = omega arith
    small_by false false false false false = omega arith

-- ---- words

-- bytes of a number are passed over
passed_over : (front rest : List ℕ) → AllByRecursion IsOther front → lex in_word (front ++ rest) ≡ lex in_word rest
unfolding lex
passed_over [] rest h = refl
passed_over (x ∷ front) rest h = ap (λ (c : Class). lex_byte in_word c x (front ++ rest) (λ next. lex next (front ++ rest))) h.0 ∙ passed_over front rest h.1

-- what a lexer in a word leaves
abbrev Lexed : Mode → List ℕ → ℕ
Lexed m xs = lexed (lex m xs)

-- every text that is no longer is short
abbrev IsShort : List ℕ → Type 0
IsShort xs = (m : Mode) → Lexed m xs ≤ length xs

abbrev AreShort : ℕ → Type 0
AreShort n = (xs : List ℕ) → length xs ≤ n → IsShort xs

tail_of : (x y : ℕ) (xs ys : List ℕ) → x ∷ xs ≡ y ∷ ys → xs ≡ ys
tail_of x y xs ys e = cc

number_small : (n x : ℕ) (xs front rest : List ℕ) → AreShort n → length xs ≤ n → x ∷ xs ≡ front ++ rest → AllByRecursion IsOther front
    → length (take (length (x ∷ xs) - length rest) (x ∷ xs)) + Lexed in_word xs ≤ length (x ∷ xs)
number_small n x xs [] rest h l e o =
    let t : List ℕ = x ∷ xs in
    let same : length t ≡ length rest = ap (λ (s : List ℕ). length s) e in
    let few : length (take (length t - length rest) t) ≤ length t - length rest = omega (arith, length-take (length t - length rest) t) in
    omega (arith, same, few, h xs l in_word)
number_small n x xs (y ∷ front) rest h l e o =
    let t : List ℕ = x ∷ xs in
    let more : xs ≡ front ++ rest = tail_of x y xs (front ++ rest) e in
    let all : length xs ≡ length front + length rest = ap (λ (s : List ℕ). length s) more ∙ length-append front rest in
    let same : Lexed in_word xs ≡ Lexed in_word rest = ap (λ (s : List ℕ). Lexed in_word s) more ∙ ap lexed (passed_over front rest o.1) in
    let few : length (take (length t - length rest) t) ≤ length t - length rest = omega (arith, length-take (length t - length rest) t) in
    omega (arith, all, same, few, h rest (omega (arith, all, l)) in_word)

number_within : (n x : ℕ) (xs : List ℕ) (o : Option (List ℕ)) → AreShort n → length xs ≤ n → FollowsSome (x ∷ xs) o → token_size (number_before (x ∷ xs) o) + Lexed in_word xs ≤ length (x ∷ xs)
number_within n x xs None h l f = omega (arith, h xs l in_word)
number_within n x xs (Some rest) h l f = elim (ends_word rest) as (λ b. token_size (cond b (tokens.number (take (length (x ∷ xs) - length rest) (x ∷ xs))) tokens.bad) + Lexed in_word xs ≤ length (x ∷ xs)) [
  | true ↦ number_small n x xs f.front rest h l f.text f.others
  | false ↦ omega (arith, h xs l in_word)
]

nothing : (b : Bool) (s : Token) → token_size s ≡ 0 → token_size (cond b s tokens.bad) ≡ 0
nothing true s e = e
nothing false s e = refl

choice : (a b c : Bool) (p q r s : Token) (n m : ℕ) → token_size p ≡ 0 → token_size q ≡ 0 → token_size r ≡ 0 → n ≤ m → token_size s + n ≤ m → token_size (cond a p (cond b q (cond c r s))) + n ≤ m
choice true b c p q r s n m e f g h k = omega (arith, e, h)
choice false true c p q r s n m e f g h k = omega (arith, f, h)
choice false false true p q r s n m e f g h k = omega (arith, g, h)
choice false false false p q r s n m e f g h k = k

word_within : (n x : ℕ) (xs : List ℕ) → AreShort n → length xs ≤ n → token_size (word (x ∷ xs)) + Lexed in_word xs ≤ length (x ∷ xs)
unfolding word
word_within n x xs h l =
    let t : List ℕ = x ∷ xs in
    choice (head t == ascii.lower_t) (head t == ascii.lower_f) (head t == ascii.lower_n) (literal ascii.true_text (tokens.boolean true) t) (literal ascii.false_text (tokens.boolean false) t) (literal ascii.null_text tokens.null t)
    (number_before t (after_number t)) (Lexed in_word xs) (length t) (nothing _ (tokens.boolean true) refl) (nothing _ (tokens.boolean false) refl) (nothing _ tokens.null refl) (omega (arith, h xs l in_word))
    (number_within n x xs (after_number t) h l (number_follows t))

-- ---- strings

-- the content, with its closing quote, before what follows
abbrev Closes : Option (List ℕ) → ℕ → ℕ → Type 0
Closes None left n = Unit {0}
Closes (Some s) left n = length s + 1 + left ≤ n

abbrev mode_of : Within → Mode
mode_of plain = in_string
mode_of after_backslash = in_escape
mode_of after_u = in_string
mode_of (after_high h) = in_string

by_test : (b : Bool) (x y : Option (List ℕ)) (left n : ℕ) → (b ≡ true → Closes x left n) → (b ≡ false → Closes y left n) → Closes (cond b x y) left n
by_test true x y left n f g = f refl
by_test false x y left n f g = g refl

by_found : (o : Option ℕ) (f : ℕ → Option (List ℕ)) (left n : ℕ) → ((u : ℕ) → o ≡ Some u → Closes (f u) left n) → Closes (option_and_then f o) left n
by_found None f left n h = tt
by_found (Some u) f left n h = h u refl

wider : (o : Option (List ℕ)) (left n m : ℕ) → n ≤ m → Closes o left n → Closes o left m
wider None left n m l h = tt
wider (Some s) left n m l h = omega (arith, l, h)

put_before : (a : List ℕ) (o : Option (List ℕ)) (left n m : ℕ) → length a + n ≤ m → Closes o left n → Closes (prepend a o) left m
put_before a None left n m l h = tt
put_before a (Some s) left n m l h = omega (arith, l, h, length-append a s)

four_bytes : (u : ℕ) → length (encode_utf8 u) ≤ 4
unfolding encode_utf8
four_bytes u = grind arith

-- a byte in a string that is neither a quote nor a backslash
stays : (x : ℕ) (xs : List ℕ) → (x == 34) ≡ false → (x == 92) ≡ false → lex in_string (x ∷ xs) ≡ lex in_string xs
unfolding lex
stays x xs q b =
    ap (λ (c : Bool). lex_byte in_string (cond c quote (cond (x == 92) backslash (cond (is_operator x) operator (cond (is_space x) space other)))) x xs (λ next. lex next xs)) q
    ∙ ap (λ (c : Bool). lex_byte in_string (cond c backslash (cond (is_operator x) operator (cond (is_space x) space other))) x xs (λ next. lex next xs)) b
    ∙ any (is_operator x) (is_space x)
  where
    any : (o s : Bool) → lex_byte in_string (cond o operator (cond s space other)) x xs (λ next. lex next xs) ≡ lex in_string xs
    any true s = refl
    any false true = refl
    any false false = refl

escapes : (x : ℕ) (xs : List ℕ) → (x == 92) ≡ true → lex in_string (x ∷ xs) ≡ lex in_escape xs
unfolding lex
escapes x xs b = ap (λ (y : ℕ). lex in_string (y ∷ xs)) (eqb-true x 92 b)

closes : (x : ℕ) (xs : List ℕ) → (x == 34) ≡ true → lex in_string (x ∷ xs) ≡ lex between xs
unfolding lex
closes x xs q = ap (λ (y : ℕ). lex in_string (y ∷ xs)) (eqb-true x 34 q)

escaped : (x : ℕ) (xs : List ℕ) → lex in_escape (x ∷ xs) ≡ lex in_string xs
unfolding lex
escaped x xs = refl

hex_stays : (x : ℕ) (xs : List ℕ) → is_digit x 16 ≡ true → lex in_string (x ∷ xs) ≡ lex in_string xs
hex_stays x xs h = stays x xs (no_digit 34 x (x == 34) refl refl h) (no_digit 92 x (x == 92) refl refl h)
  where
    no_digit : (c y : ℕ) (b : Bool) → is_digit c 16 ≡ false → (y == c) ≡ b → is_digit y 16 ≡ true → b ≡ false
    no_digit c y true never e d = absurd (false≢true (sym never ∙ ap (λ (z : ℕ). is_digit z 16) (sym (eqb-true y c e)) ∙ d))
    no_digit c y false never e d = refl

hex_by : (b : Bool) (u v : ℕ) → cond b (Some u) None ≡ Some v → b ≡ true
hex_by true u v e = refl
hex_by false u v e = absurd (none-some v e)

unit_stays : (a b c d : ℕ) (xs : List ℕ) (u : ℕ) → code_unit a b c d ≡ Some u → lex in_string (a ∷ b ∷ c ∷ d ∷ xs) ≡ lex in_string xs
unfolding code_unit
unit_stays a b c d xs u e =
    let p = and_parts (is_digit a 16 && is_digit b 16 && is_digit c 16) (is_digit d 16) (hex_by _ _ u e) in
    let q = and_parts (is_digit a 16 && is_digit b 16) (is_digit c 16) p.0 in
    let r = and_parts (is_digit a 16) (is_digit b 16) q.0 in
    hex_stays a (b ∷ c ∷ d ∷ xs) r.0 ∙ hex_stays b (c ∷ d ∷ xs) r.1 ∙ hex_stays c (d ∷ xs) q.1 ∙ hex_stays d xs p.1

string_within : (n : ℕ) → AreShort n → (w : Within) (xs : List ℕ) → length xs ≤ n + 1 → Closes (content w xs) (Lexed (mode_of w) xs) (length xs)
unfolding content
string_within n h plain [] l = tt
string_within n h plain (x ∷ xs) l =
    by_test (x == 34) (Some []) _ (Lexed in_string (x ∷ xs)) (length (x ∷ xs)) (λ q. let e = ap lexed (closes x xs q) in omega (arith, e, h xs (omega (arith, l)) between))
    (λ q. by_test (x == 92) (content after_backslash xs) _ (Lexed in_string (x ∷ xs)) (length (x ∷ xs))
    (λ b. subst (λ (k : ℕ). Closes (content after_backslash xs) k (length (x ∷ xs))) (sym (ap lexed (escapes x xs b))) (wider (content after_backslash xs) _ (length xs) (length (x ∷ xs)) (omega arith) (string_within n h after_backslash xs (omega (arith, l)))))
    (λ b. by_test (nat_lt x 32) None _ (Lexed in_string (x ∷ xs)) (length (x ∷ xs)) (λ c. tt)
    (λ c. subst (λ (k : ℕ). Closes (prepend (x ∷ []) (content plain xs)) k (length (x ∷ xs))) (sym (ap lexed (stays x xs q b))) (put_before (x ∷ []) (content plain xs) _ (length xs) (length (x ∷ xs)) (omega arith) (string_within n h plain xs (omega (arith, l)))))))
string_within n h after_backslash [] l = tt
string_within n h after_backslash (x ∷ xs) l =
    subst (λ (k : ℕ). Closes (content after_backslash (x ∷ xs)) k (length (x ∷ xs))) (sym (ap lexed (escaped x xs)))
    (by_test (x == 117) (content after_u xs) _ (Lexed in_string xs) (length (x ∷ xs)) (λ u. wider (content after_u xs) _ (length xs) (length (x ∷ xs)) (omega arith) (string_within n h after_u xs (omega (arith, l))))
    (λ u. by_found (short_escape x) _ (Lexed in_string xs) (length (x ∷ xs)) (λ c e. put_before (c ∷ []) (content plain xs) _ (length xs) (length (x ∷ xs)) (omega arith) (string_within n h plain xs (omega (arith, l))))))
string_within n h after_u [] l = tt
string_within n h after_u (a ∷ []) l = tt
string_within n h after_u (a ∷ b ∷ []) l = tt
string_within n h after_u (a ∷ b ∷ c ∷ []) l = tt
string_within n h after_u (a ∷ b ∷ c ∷ d ∷ xs) l =
    let all : ℕ = length (a ∷ b ∷ c ∷ d ∷ xs) in
    by_found (code_unit a b c d) _ (Lexed in_string (a ∷ b ∷ c ∷ d ∷ xs)) all (λ u e.
    subst (λ (k : ℕ). Closes (cond (is_high_surrogate u) (content (after_high u) xs) (cond (is_low_surrogate u) None (prepend (encode_utf8 u) (content plain xs)))) k all) (sym (ap lexed (unit_stays a b c d xs u e)))
    (by_test (is_high_surrogate u) (content (after_high u) xs) _ (Lexed in_string xs) all (λ t. wider (content (after_high u) xs) _ (length xs) all (omega arith) (string_within n h (after_high u) xs (omega (arith, l))))
    (λ t. by_test (is_low_surrogate u) None _ (Lexed in_string xs) all (λ v. tt) (λ v. put_before (encode_utf8 u) (content plain xs) _ (length xs) all (omega (arith, four_bytes u)) (string_within n h plain xs (omega (arith, l)))))))
string_within n h (after_high i) [] l = tt
string_within n h (after_high i) (s ∷ []) l = tt
string_within n h (after_high i) (s ∷ u ∷ []) l = tt
string_within n h (after_high i) (s ∷ u ∷ a ∷ []) l = tt
string_within n h (after_high i) (s ∷ u ∷ a ∷ b ∷ []) l = tt
string_within n h (after_high i) (s ∷ u ∷ a ∷ b ∷ c ∷ []) l = tt
string_within n h (after_high i) (s ∷ u ∷ a ∷ b ∷ c ∷ d ∷ xs) l =
    let all : ℕ = length (s ∷ u ∷ a ∷ b ∷ c ∷ d ∷ xs) in
    by_test ((s == 92) && (u == 117)) _ None (Lexed in_string (s ∷ u ∷ a ∷ b ∷ c ∷ d ∷ xs)) all
    (λ t. by_found (code_unit a b c d) _ (Lexed in_string (s ∷ u ∷ a ∷ b ∷ c ∷ d ∷ xs)) all (λ v e.
    subst (λ (k : ℕ). Closes (cond (is_low_surrogate v) (prepend (encode_utf8 (surrogate_pair i v)) (content plain xs)) None) k all)
    (sym (ap lexed (escapes s (u ∷ a ∷ b ∷ c ∷ d ∷ xs) (and_parts _ _ t).0 ∙ escaped u (a ∷ b ∷ c ∷ d ∷ xs) ∙ unit_stays a b c d xs v e)))
    (by_test (is_low_surrogate v) (prepend (encode_utf8 (surrogate_pair i v)) (content plain xs)) None (Lexed in_string xs) all
    (λ y. put_before (encode_utf8 (surrogate_pair i v)) (content plain xs) _ (length xs) all (omega (arith, four_bytes (surrogate_pair i v))) (string_within n h plain xs (omega (arith, l)))) (λ y. tt))))
    (λ t. tt)

string_small : (o : Option (List ℕ)) (left n : ℕ) → Closes o left n → left ≤ n → token_size (string_token o) + left ≤ n + 1
string_small None left n h l = omega (arith, l)
string_small (Some s) left n h l = omega (arith, h)

-- ---- all of it

-- one byte more
byte_within : (n : ℕ) (m : Mode) (x : ℕ) (xs : List ℕ) → AreShort n → length xs ≤ n → Lexed m (x ∷ xs) ≤ length (x ∷ xs)
unfolding lex
byte_within n m x xs h l = by_class m (class x)
  where
    by_class : (m : Mode) (c : Class) → lexed (lex_byte m c x xs (λ next. lex next xs)) ≤ length (x ∷ xs)
    by_class between quote = omega (arith, string_small (content plain xs) (Lexed in_string xs) (length xs) (string_within n h plain xs (omega (arith, l))) (h xs l in_string))
    by_class between backslash = omega (arith, h xs l in_word)
    by_class between operator = omega (arith, operator_small x, h xs l between)
    by_class between space = omega (arith, h xs l between)
    by_class between other = omega (arith, word_within n x xs h l)
    by_class in_word quote = omega (arith, h xs l in_word)
    by_class in_word backslash = omega (arith, h xs l in_word)
    by_class in_word operator = omega (arith, operator_small x, h xs l between)
    by_class in_word space = omega (arith, h xs l between)
    by_class in_word other = omega (arith, h xs l in_word)
    by_class in_string quote = omega (arith, h xs l between)
    by_class in_string backslash = omega (arith, h xs l in_escape)
    by_class in_string operator = omega (arith, h xs l in_string)
    by_class in_string space = omega (arith, h xs l in_string)
    by_class in_string other = omega (arith, h xs l in_string)
    by_class in_escape c = omega (arith, h xs l in_string)

lexed_within : (n : ℕ) → AreShort n
unfolding lex
lexed_within n [] l m = omega arith
lexed_within zero (x ∷ xs) l m = absurd (omega (arith, l))
lexed_within (suc n) (x ∷ xs) l m = byte_within n m x xs (lexed_within n) (omega (arith, l))

-- the lexemes of a text
pub lexemes_within : (text : List ℕ) → lexed (lex between text) ≤ length text
lexemes_within text = lexed_within (length text) text (omega arith) between
