-- Lines up to the first one that is `end`. A line is its bytes, and none if it is too long. (Own)
use Rattle.std.specs.Prelude.{◌≡◌, ℕ, Bool, false, List, [], ◌∷◌, Option, Some, None, bytes_eq, codes, if◌then◌else◌}
use Rattle.std.specs.List.{list_any}
use Rattle.line_giver.specs.Giving.{Giving, HasPassed, IsThrough, lines_of_giving}

-- the line is `end` alone
abbrev pub is_end_line : Option (List ℕ) → Bool
is_end_line None = false
is_end_line (Some text) = bytes_eq text (codes "end")

-- one of these lines is `end`
abbrev pub has_end : List (Option (List ℕ)) → Bool
has_end lines = list_any is_end_line lines

-- the lines up to and with the first `end`; all lines if none is
abbrev pub up_to_end : List (Option (List ℕ)) → List (Option (List ℕ))
up_to_end [] = []
up_to_end (line ∷ lines) = if is_end_line line then line ∷ [] else line ∷ up_to_end lines

-- lines are a whole text: at most the last one is `end`; if it is not, no line is left
pub record IsEnded (lines : List (Option (List ℕ))) (left : Option (List (Option (List ℕ)))) : Type 0 where
  pub front : up_to_end lines ≡ lines
  pub through : has_end lines ≡ false → IsThrough left

-- between two moments these lines were passed, and they are a whole text
pub record HasPassedText {Stream : Type 0} (before after : Stream → List (Option (List ℕ)) → Type 0) (old new : Giving) (lines : List (Option (List ℕ))) : Type 0 where
  pub passed : HasPassed before after old new lines
  pub ended : IsEnded lines (lines_of_giving new)

-- a whole text was passed
pub record PassesText {Stream : Type 0} (before after : Stream → List (Option (List ℕ)) → Type 0) (old new : Giving) : Type 0 where
  pub lines : List (Option (List ℕ))
  pub text : HasPassedText before after old new lines

-- lines were passed, none of which is `end`, and none is seen
pub record PassesNoEnd {Stream : Type 0} (before after : Stream → List (Option (List ℕ)) → Type 0) (old new : Giving) : Type 0 where
  pub lines : List (Option (List ℕ))
  pub passed : HasPassed before after old new lines
  pub unended : has_end lines ≡ false
  pub unseen : new.seen ≡ []
