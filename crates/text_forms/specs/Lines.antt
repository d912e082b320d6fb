-- Lines without a number: words with a space between each two. (Own)
use Rattle.std.specs.Prelude.{List, [], ◌∷◌, ◌++◌, Bool, flat_map, length, map, nat_le}
use Rattle.std.specs.List.{join_by, list_all}
use Rattle.text_model.specs.of_tx_records.declared.limits.TheConstants.{LINE_LIMIT}
use Rattle.text_model.specs.Words.{Text}

-- the words of a line, with a space between each two
abbrev pub joined : List Text → Text
joined words = join_by (λ w. w) (32 ∷ []) words

-- lines of words as bytes, without line feeds
abbrev pub joined_lines : List (List Text) → List Text
joined_lines lines = map joined lines

-- a text of these lines, each with a line feed
abbrev pub text_of_bare : List (List Text) → Text
text_of_bare lines = flat_map (λ words. joined words ++ 10 ∷ []) lines

-- no line is longer than the maximum length of a line
abbrev pub are_short_lines : List (List Text) → Bool
are_short_lines lines = list_all (λ words. nat_le (length (joined words)) LINE_LIMIT) lines
