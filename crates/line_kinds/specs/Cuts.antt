-- Words of a line, as it is cut at its spaces. (Own)
use Rattle.std.specs.Prelude.{ℕ, ◌-◌, ◌==◌, Bool, true, false, ◌&&◌, if◌then◌else◌, List, [], ◌∷◌, Option, Some, None, drop, get_or, length, nat_le, nat_lt, take}
use Rattle.std.specs.List.{list_all}
use Rattle.std.specs.Str.{is_utf8}
use Rattle.text_model.specs.Words.{Text}

-- the byte put before the first piece
abbrev pub with_first : ℕ → List Text → List Text
with_first b [] = (b ∷ []) ∷ []
with_first b (w ∷ ws) = (b ∷ w) ∷ ws

-- the words between the spaces
abbrev pub cut : Text → List Text
cut [] = [] ∷ []
cut (b ∷ bs) = if b == 32 then [] ∷ cut bs else with_first b (cut bs)

-- the most words of a line
abbrev pub most_words : ℕ
most_words = 20

-- the words of a line that is a text, if it has not too many
abbrev pub words_in : Text → Option (List Text)
words_in line = if is_utf8 line && nat_le (length (cut line)) most_words then Some (cut line) else None

-- a printed byte other than a space
abbrev pub is_plain_byte : ℕ → Bool
is_plain_byte b = nat_lt 32 b && nat_lt b 127

-- a word of such bytes
abbrev pub is_plain : Text → Bool
is_plain word = list_all is_plain_byte word

-- whether there is one
abbrev pub are_some : List Text → Bool
are_some [] = false
are_some (w ∷ ws) = true

-- words that a line can be cut into again
abbrev pub are_plain : List Text → Bool
are_plain words = are_some words && nat_le (length words) most_words && list_all is_plain words

-- the word at a place, from 0; empty past the last
abbrev pub word_at : ℕ → List Text → Text
word_at place words = get_or words place []

-- a line without its number 0, the space after it, and the line feed
abbrev pub inside : Text → Text
inside line = take (length line - 3) (drop 2 line)
