-- Lines that are looked at before they are passed. (Own)
-- A line is its bytes without the line feed, and none if it is too long.
use Rattle.std.specs.Prelude.{◌≡◌, ℕ, ◌++◌, List, [], ◌∷◌, Option, Some, None, option_map, ⊤}
use Rattle.byte_lines.specs.declared.lines.Line.{Line}
use Rattle.byte_lines.specs.declared.lines.Line.TheVariants.{Whole, TooLong, End}

-- what a giver of lines has
pub record Giving : Type 0 where
  -- the bytes of the line that was seen, if it is whole
  pub text : List ℕ
  -- the line that was seen and not passed, if there is one
  pub seen : List (Option (List ℕ))
  -- the lines after it, if they are known
  pub after : Option (List (Option (List ℕ)))

-- lines, and then the known ones
abbrev pub known_after : List (Option (List ℕ)) → Option (List (Option (List ℕ))) → Option (List (Option (List ℕ)))
known_after lines more = option_map (λ ls. lines ++ ls) more

-- the lines that are left, if they are known
abbrev pub lines_of_giving : Giving → Option (List (Option (List ℕ)))
lines_of_giving g = known_after g.seen g.after

-- no line is left, if that is known
abbrev pub IsThrough : Option (List (Option (List ℕ))) → Type 0
IsThrough None = ⊤
IsThrough (Some lines) = lines ≡ []

-- the line of an answer, with the text of a whole one
abbrev pub seen_line : Line → List ℕ → List (Option (List ℕ))
seen_line Whole text = Some text ∷ []
seen_line TooLong text = None ∷ []
seen_line End text = []

-- an answer is the line that is seen now; at the end no line is left
pub record Sees (g : Giving) (line : Line) : Type 0 where
  pub seen : g.seen ≡ seen_line line g.text
  pub through : line ≡ End → IsThrough (lines_of_giving g)

-- between two moments these lines were passed
pub record HasPassed {Stream : Type 0} (passed passed' : Stream → List (Option (List ℕ)) → Type 0) (old new : Giving) (lines : List (Option (List ℕ))) : Type 0 where
  -- of every stream: they follow those that were passed before
  pub of_stream : (s : Stream) (before : List (Option (List ℕ))) → passed s before → passed' s (before ++ lines)
  -- they were the first that were left
  pub left : lines_of_giving old ≡ known_after lines (lines_of_giving new)

-- between two moments some lines were passed, or none
pub record PassesSome {Stream : Type 0} (before after : Stream → List (Option (List ℕ)) → Type 0) (old new : Giving) : Type 0 where
  pub lines : List (Option (List ℕ))
  pub passed : HasPassed before after old new lines
