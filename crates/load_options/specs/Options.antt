-- Options: a name and a number in two words, or in one with an equals sign between them. (Own)
use Rattle.std.specs.Prelude.{◌≡◌, ℕ, ◌==◌, ◌<◌, Bool, List, [], ◌∷◌, Option, Some, None, String, bytes_eq, filter, is_some, length, map, string_bytes, if◌then◌else◌}
use Rattle.std.specs.List.{after_first, before_first, position}
use Rattle.std.specs.declared.alloc.Global.{Global}

-- whether a byte is an equals sign
abbrev pub is_equals_sign : ℕ → Bool
is_equals_sign byte = byte == 61

-- whether a word has one
abbrev pub has_equals_sign : List ℕ → Bool
has_equals_sign word = is_some (position is_equals_sign word)

-- the bytes before the first equals sign, and the bytes after it
abbrev pub halves_of : List ℕ → List ℕ × List ℕ
halves_of word = (before_first is_equals_sign word, after_first is_equals_sign word)

-- the options of words, each with its name and its number;
-- a name that is the last word has the empty number
abbrev pub options_of : List (String Global) → List (List ℕ × List ℕ)
options_of [] = []
options_of (word ∷ []) = (if has_equals_sign (string_bytes word) then halves_of (string_bytes word) else (string_bytes word, [])) ∷ []
options_of (word ∷ next ∷ words) =
    if has_equals_sign (string_bytes word)
    then halves_of (string_bytes word) ∷ options_of (next ∷ words)
    else (string_bytes word, string_bytes next) ∷ options_of words

-- the numbers of the options with a name
abbrev pub numbers_after : List ℕ → List (List ℕ × List ℕ) → List (List ℕ)
numbers_after name options = map (λ option. option.1) (filter (λ option. bytes_eq option.0 name) options)

-- the item of a list of one
abbrev pub the_one : {A : Type 0} → List A → Option A
the_one (x ∷ []) = Some x
the_one _ = None

-- the first option of the words, and the words after it
pub record BeginsWith (words : List (String Global)) (name number : List ℕ) (after : List (String Global)) : Type 0 where
  pub options : options_of words ≡ (name, number) ∷ options_of after
  pub shorter : length after < length words
