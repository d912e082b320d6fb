-- Lines that are the next ones of those that are given. (Own)
-- A given line is its bytes without the line feed, and none if it is too long.
use Rattle.std.specs.Prelude.{◌++◌, Bool, bytes_eq, if◌then◌else◌, List, [], ◌∷◌, Option, Some, None}
use Rattle.text_forms.specs.Lines.{joined}
use Rattle.text_model.specs.Words.{Text}

-- a line with its line feed is that of a text
abbrev pub is_line_of : Text → Text → Bool
is_line_of line text = bytes_eq line (text ++ 10 ∷ [])

-- the lines that are left after this one, with its line feed
-- none, if it is not the first of them, or if they are not known
abbrev pub left_after : Option (List (Option Text)) → Text → Option (List (Option Text))
left_after None line = None
left_after (Some []) line = None
left_after (Some (None ∷ more)) line = None
left_after (Some (Some text ∷ more)) line = if is_line_of line text then Some more else None

-- the same after several lines, each given by its words
abbrev pub left_after_all : Option (List (Option Text)) → List (List Text) → Option (List (Option Text))
left_after_all left [] = left
left_after_all left (words ∷ more) = left_after_all (left_after left (joined words ++ 10 ∷ [])) more
