-- The lines of a source. (Own)
use Rattle.std.specs.Prelude.{◌≡◌, ℕ, ◌-◌, ◌<◌, ◌++◌, Bool, true, false, List, [], Option, option_map}
use Rattle.byte_lines.specs.Progress.{HasRead}
use Rattle.byte_lines.specs.Reader.{Reader, heeded, lines_left}
use Rattle.byte_lines.specs.declared.lines.Line.{Line}
use Rattle.byte_lines.specs.declared.lines.Line.TheVariants.{End}
use Rattle.line_giver.specs.Giving.{Giving, seen_line}

-- the lines that a reader has still to give, by whether it ended; within the limit of the stream
abbrev pub lines_unless : Bool → Reader → List ℕ → List (Option (List ℕ))
lines_unless true r rest = []
lines_unless false r rest = lines_left r (heeded (r.stream_max - r.taken) rest)

-- what a reader has: the line that was seen, and what its source reports
abbrev pub giving_of : Reader → Line → Option (List ℕ) → Giving
giving_of r seen left = record { text = r.text; seen = seen_line seen r.text; after = option_map (lines_unless r.ended r) left }

-- no line is seen, and more bytes came than the stream may have
abbrev pub IsOverOf : Reader → Line → Type 0
IsOverOf r seen = (seen ≡ End) × (r.stream_max < r.taken)

-- a stream of bytes that is read through two loans, each by its name
pub record Lent : Type 0 where
  pub reader : ℕ
  pub source : ℕ
  pub bytes : List ℕ

-- of the stream these lines were passed: with the line that was seen, the reader gave them
pub record HasPassedOf (s : Lent) (reader source : ℕ) (r : Reader) (seen : Line) (left : Option (List ℕ)) (before : List (Option (List ℕ))) : Type 0 where
  pub same_reader : reader ≡ s.reader
  pub same_source : source ≡ s.source
  pub read : HasRead s.bytes r left (before ++ seen_line seen r.text)
