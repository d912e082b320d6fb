-- The value of a reader of lines.
use Rattle.std.specs.Prelude.{ℕ, ◌≤◌, ◌++◌, Bool, List, [], ◌∷◌, Option, Some, None, length, map, take}
use Rattle.std.specs.Option.{ForSome}
use Rattle.byte_lines.specs.Pieces.{kept, pieces_of}

-- a reader of lines
pub record Reader : Type 0 where
  -- a line of more bytes is too long
  pub line_max : ℕ
  -- the limit of the stream, in bytes
  pub stream_max : ℕ
  -- how many bytes it read; the last may be one past stream_max
  pub taken : ℕ
  -- the current line, none if it is too long already
  pub begun : Option (List ℕ)
  -- the bytes read and not examined yet
  pub ahead : List ℕ
  -- how many bytes it holds for the current line and the buffer
  pub held : ℕ
  -- the last whole line
  pub text : List ℕ
  -- the number of the last line given, 0 before the first
  pub number : ℕ
  -- whether the source gave its end
  pub ended : Bool
  -- whether memory ran out
  pub failed : Bool

-- the greatest number of bytes that one read asks for
abbrev pub part_max : ℕ
part_max = 65536

-- the bytes that came, up to the limit of the stream
abbrev pub heeded : ℕ → List ℕ → List ℕ
heeded stream_max came = take stream_max came

-- the current line with more bytes
abbrev pub with_run : ℕ → Option (List ℕ) → List ℕ → Option (List ℕ)
with_run max None run = None
with_run max (Some line) run = kept max (line ++ run)

-- the current line is not longer than max
abbrev pub FitsIn : ℕ → Option (List ℕ) → Type 0
FitsIn max begun = ForSome begun (λ line. length line ≤ max)

-- the current line, if it is not empty
abbrev pub last_line : Option (List ℕ) → List (Option (List ℕ))
last_line None = None ∷ []
last_line (Some []) = []
last_line (Some (b ∷ bs)) = Some (b ∷ bs) ∷ []

-- the lines of pieces, of which the first continues the current line
abbrev pub lines_after : ℕ → Option (List ℕ) → List (List ℕ) → List (Option (List ℕ))
lines_after max begun [] = last_line begun
lines_after max begun (p ∷ ps) = with_run max begun p ∷ map (kept max) ps

-- the lines that a reader has still to give, if `rest` comes from its source
abbrev pub lines_left : Reader → List ℕ → List (Option (List ℕ))
lines_left r rest = lines_after r.line_max r.begun (pieces_of (r.ahead ++ rest))
