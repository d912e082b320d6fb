-- The lines that a reader gave of a stream.
use Rattle.std.specs.Prelude.{◌≡◌, ℕ, ◌++◌, false, List, [], Option, Some, IsTrue, length}
use Rattle.byte_lines.specs.Pieces.{kept, lines_of, open_of, whole_of}
use Rattle.byte_lines.specs.Reader.{Reader, heeded}

-- before the end: it gave the whole lines of the examined bytes; the current line is the open one
pub record IsAmong (r : Reader) (looked : List ℕ) (given : List (Option (List ℕ))) : Type 0 where
  pub lines : given ≡ lines_of r.line_max (whole_of looked)
  pub begun : r.begun ≡ kept r.line_max (open_of looked)

-- at the end: it gave all their lines, and nothing is left in the buffer or the source
pub record IsThrough (r : Reader) (looked rest : List ℕ) (given : List (Option (List ℕ))) : Type 0 where
  pub lines : given ≡ lines_of r.line_max looked
  pub begun : r.begun ≡ Some []
  pub ahead : r.ahead ≡ []
  pub drained : rest ≡ []

-- the source had `bytes`, has `left`, and the reader gave these lines of it
pub record HasRead (bytes : List ℕ) (r : Reader) (left : Option (List ℕ)) (given : List (Option (List ℕ))) : Type 0 where
  -- the bytes that came, and the bytes that are left
  pub came : List ℕ
  pub rest : List ℕ
  pub cut : bytes ≡ came ++ rest
  pub told : left ≡ Some rest
  pub taken : r.taken ≡ length came
  -- of the bytes within the limit: those that it examined, then those of its buffer
  pub looked : List ℕ
  pub heeds : heeded r.stream_max came ≡ looked ++ r.ahead
  pub numbered : r.number ≡ length given
  pub among : r.ended ≡ false → IsAmong r looked given
  pub through : IsTrue r.ended → IsThrough r looked rest given
