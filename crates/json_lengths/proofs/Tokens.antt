-- The tokens of a text, with the commas and colons between them, take no more bytes than its lexemes.
use Rattle.std.proofs.Common.{◌≡◌, ℕ, ◌+◌, ◌≤◌, Bool, true, false, List, [], ◌∷◌, length, refl, arith}
use Rattle.std.proofs.lemmas.Bool.{false≢true}
use Rattle.json.specs.Lex.{Lexeme, Place, after_comma, after_key, after_value, begins_colon, between, colon, comma, fresh, if_allowed, lex, may_begin, may_close, place_token, punctuate, token}
use Rattle.json.specs.Lex as json
use Rattle.json.specs.Token.{Token}
use Rattle.json.specs.Token as tokens
use Rattle.json_lengths.proofs.Lexemes.{lexed, lexemes_within, token_size}

-- the comma before a token that follows a value
abbrev pub separator : Bool → Token → ℕ
separator false t = 0
separator true tokens.begin_object = 1
separator true tokens.end_object = 0
separator true tokens.begin_array = 1
separator true tokens.end_array = 0
separator true (tokens.key s) = 1
separator true (tokens.string s) = 1
separator true (tokens.number s) = 1
separator true (tokens.boolean b) = 1
separator true tokens.null = 1
separator true tokens.bad = 0

-- whether a value has ended
abbrev pub ends : Token → Bool
ends tokens.begin_object = false
ends tokens.end_object = true
ends tokens.begin_array = false
ends tokens.end_array = true
ends (tokens.key s) = false
ends (tokens.string s) = true
ends (tokens.number s) = true
ends (tokens.boolean b) = true
ends tokens.null = true
ends tokens.bad = true

-- how many bytes tokens take, after a value or not
abbrev pub cost : Bool → List Token → ℕ
cost a [] = 0
cost a (t ∷ ts) = separator a t + token_size t + cost (ends t) ts

abbrev state : Place → Bool
state fresh = false
state after_value = true
state after_comma = true
state after_key = false

-- the comma that was passed
abbrev credit : Place → ℕ
credit fresh = 0
credit after_value = 0
credit after_comma = 1
credit after_key = 0

separator_small : (t : Token) → separator true t ≤ 1
separator_small tokens.begin_object = omega arith
separator_small tokens.end_object = omega arith
separator_small tokens.begin_array = omega arith
separator_small tokens.end_array = omega arith
separator_small (tokens.key s) = omega arith
separator_small (tokens.string s) = omega arith
separator_small (tokens.number s) = omega arith
separator_small (tokens.boolean b) = omega arith
separator_small tokens.null = omega arith
separator_small tokens.bad = omega arith

begins : (p : Place) (t : Token) (next : Place) (ls : List Lexeme) (m : ℕ) → token_size t + cost (ends t) (punctuate next ls) ≤ m → cost (state p) (if_allowed (may_begin p) t (λ q. punctuate q ls) next) ≤ m + credit p
begins fresh t next ls m h = omega (arith, h)
begins after_value t next ls m h = omega arith
begins after_comma t next ls m h = omega (arith, h, separator_small t)
begins after_key t next ls m h = omega arith

finishes : (p : Place) (t : Token) (next : Place) (ls : List Lexeme) (m : ℕ) → separator true t ≡ 0 → token_size t + cost (ends t) (punctuate next ls) ≤ m → cost (state p) (if_allowed (may_close p) t (λ q. punctuate q ls) next) ≤ m + credit p
finishes fresh t next ls m e h = omega (arith, h)
finishes after_value t next ls m e h = omega (arith, h, e)
finishes after_comma t next ls m e h = omega arith
finishes after_key t next ls m e h = omega arith

-- what holds of the lexemes that follow
record Holds (ls : List Lexeme) : Type 0 where
  each : (p : Place) → cost (state p) (punctuate p ls) ≤ lexed ls + credit p
  value : begins_colon ls ≡ true → cost false (punctuate after_key ls) + 1 ≤ lexed ls

string_placed : (p : Place) (s : List ℕ) (c : Bool) (ls : List Lexeme) → Holds ls → begins_colon ls ≡ c → cost (state p) (place_token p (tokens.string s) c (λ q. punctuate q ls)) ≤ length s + 2 + lexed ls + credit p
string_placed p s true ls h e = begins p (tokens.key s) after_key ls (length s + 2 + lexed ls) (omega (arith, h.value e))
string_placed p s false ls h e = begins p (tokens.string s) after_value ls (length s + 2 + lexed ls) (omega (arith, h.each after_value))

placed : (p : Place) (t : Token) (ls : List Lexeme) → Holds ls → cost (state p) (place_token p t (begins_colon ls) (λ q. punctuate q ls)) ≤ token_size t + lexed ls + credit p
placed p tokens.begin_object ls h = begins p tokens.begin_object fresh ls (1 + lexed ls) (omega (arith, h.each fresh))
placed p tokens.end_object ls h = finishes p tokens.end_object after_value ls (1 + lexed ls) refl (omega (arith, h.each after_value))
placed p tokens.begin_array ls h = begins p tokens.begin_array fresh ls (1 + lexed ls) (omega (arith, h.each fresh))
placed p tokens.end_array ls h = finishes p tokens.end_array after_value ls (1 + lexed ls) refl (omega (arith, h.each after_value))
placed p (tokens.key s) ls h = nothing (state p) (length s + 3 + lexed ls + credit p)
  where
    nothing : (a : Bool) (n : ℕ) → cost a (tokens.bad ∷ []) ≤ n
    nothing true n = omega arith
    nothing false n = omega arith
placed p (tokens.string s) ls h = string_placed p s (begins_colon ls) ls h refl
placed p (tokens.number s) ls h = begins p (tokens.number s) after_value ls (length s + lexed ls) (omega (arith, h.each after_value))
placed p (tokens.boolean b) ls h = begins p (tokens.boolean b) after_value ls (0 + lexed ls) (omega (arith, h.each after_value))
placed p tokens.null ls h = begins p tokens.null after_value ls (0 + lexed ls) (omega (arith, h.each after_value))
placed p tokens.bad ls h = nothing (state p) (0 + lexed ls + credit p)
  where
    nothing : (a : Bool) (n : ℕ) → cost a (tokens.bad ∷ []) ≤ n
    nothing true n = omega arith
    nothing false n = omega arith

punctuated : (ls : List Lexeme) → Holds ls
unfolding punctuate
punctuated [] = record { each = at_end; value = λ e. absurd (false≢true e) }
  where
    at_end : (p : Place) → cost (state p) (punctuate p []) ≤ 0 + credit p
    at_end fresh = omega arith
    at_end after_value = omega arith
    at_end after_comma = omega arith
    at_end after_key = omega arith
punctuated (token t ∷ ls) = record { each = of_token (punctuated ls); value = λ e. absurd (false≢true e) }
  where
    of_token : Holds ls → (p : Place) → cost (state p) (punctuate p (token t ∷ ls)) ≤ token_size t + lexed ls + credit p
    of_token h fresh = placed fresh t ls h
    of_token h after_value = placed after_value t ls h
    of_token h after_comma = placed after_comma t ls h
    of_token h after_key = placed after_key t ls h
punctuated (comma ∷ ls) = record { each = of_comma (punctuated ls); value = λ e. absurd (false≢true e) }
  where
    of_comma : Holds ls → (p : Place) → cost (state p) (punctuate p (comma ∷ ls)) ≤ 1 + lexed ls + credit p
    of_comma h fresh = omega arith
    of_comma h after_value = omega (arith, h.each after_comma)
    of_comma h after_comma = omega arith
    of_comma h after_key = omega arith
punctuated (colon ∷ ls) = record { each = of_colon (punctuated ls); value = λ e. omega (arith, (punctuated ls).each fresh) }
  where
    of_colon : Holds ls → (p : Place) → cost (state p) (punctuate p (colon ∷ ls)) ≤ 1 + lexed ls + credit p
    of_colon h fresh = omega arith
    of_colon h after_value = omega arith
    of_colon h after_comma = omega arith
    of_colon h after_key = omega (arith, h.each fresh)

-- the tokens of a text
pub tokens_within : (text : List ℕ) → cost false (json.tokens text) ≤ length text
tokens_within text = omega (arith, (punctuated (lex between text)).each fresh, lexemes_within text)
