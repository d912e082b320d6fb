-- What a call for the next line does.
use Rattle.std.specs.Prelude.{◌≡◌, ℕ, ◌+◌, ◌-◌, ◌++◌, ◌≤◌, ◌<◌, ◌⊎◌, ◌↔◌, false, List, [], ◌∷◌, Option, Some, None, Result, Ok, Err, IsErr, IsOk, IsTrue, length, ⊤}
use Rattle.std.specs.Io.KnownBytes.{IsAtEnd, prepend_known}
use Rattle.byte_lines.specs.Pieces.{has_feed, line_feed}
use Rattle.byte_lines.specs.Reader.{FitsIn, Reader, heeded, lines_left, part_max}
use Rattle.byte_lines.specs.declared.lines.Line.{Line}
use Rattle.byte_lines.specs.declared.lines.Line.TheVariants.{Whole, TooLong, End}
use Rattle.byte_lines.specs.declared.lines.LineFault.{LineFault}
use Rattle.byte_lines.specs.declared.lines.LineFault.TheVariants.{ReadFault, TooMuch, NoMemory}

-- the line of an answer: the text of a whole line, none instead of one that is too long
abbrev pub line_given : Result Line LineFault → Reader → List (Option (List ℕ))
line_given (Ok Whole) new = Some new.text ∷ []
line_given (Ok TooLong) new = None ∷ []
line_given (Ok End) new = []
line_given (Err fault) new = []

-- the text stays, except after a whole line
abbrev pub TextStays : Reader → Reader → Result Line LineFault → Type 0
TextStays old new (Ok Whole) = ⊤
TextStays old new (Ok TooLong) = new.text ≡ old.text
TextStays old new (Ok End) = new.text ≡ old.text
TextStays old new (Err fault) = new.text ≡ old.text

-- the end came, the source has too many bytes, or memory ran out
abbrev pub IsStopped : Reader → Type 0
IsStopped r = IsTrue r.ended ⊎ (r.stream_max < r.taken) ⊎ IsTrue r.failed

-- what a call leaves of the reader, for every source
pub record Advances (old new : Reader) (result : Result Line LineFault) : Type 0 where
  pub line_max : new.line_max ≡ old.line_max
  pub stream_max : new.stream_max ≡ old.stream_max
  pub text : TextStays old new result
  pub number : new.number ≡ old.number + length (line_given result new)
  pub grows : old.taken ≤ new.taken
  pub bound : new.taken ≤ new.stream_max + 1

-- the bytes that a call takes of the source, and the lines that it gives of them;
-- the bytes are the first that the source has left, if it reports them;
-- a source that reports nothing still reports nothing
pub record HasTaken (old new : Reader) (left left' : Option (List ℕ)) (given : List (Option (List ℕ))) : Type 0 where
  pub bytes : List ℕ
  pub count : new.taken ≡ old.taken + length bytes
  pub told : left ≡ prepend_known bytes left'
  -- at the end no byte is left
  pub drained : old.ended ≡ false → IsTrue new.ended → IsAtEnd left'
  -- for all bytes that follow, and none after the end:
  -- the lines given and the lines still to come are those that were to come
  pub lines : (rest : List ℕ) → (IsTrue new.ended → rest ≡ []) →
      lines_left old (heeded (old.stream_max - old.taken) bytes ++ rest) ≡ given ++ lines_left new rest

-- the first line of the buffer is removed: it goes up to the first line feed
-- and is the text if the current line was empty
pub record PassesLine (old new : Reader) (line : Line) : Type 0 where
  pub run : List ℕ
  pub cut : old.ahead ≡ run ++ line_feed ∷ new.ahead
  pub first : has_feed run ≡ false
  pub text : old.begun ≡ Some [] → line ≡ Whole → new.text ≡ run

-- the first line of the buffer is removed; after an error it is still there
abbrev pub Passes : Reader → Reader → Result Line LineFault → Type 0
Passes old new (Ok line) = PassesLine old new line
Passes old new (Err fault) = (new.ahead ≡ old.ahead) × (new.begun ≡ old.begun)

-- bounds for lines and streams of every length
pub record IsBounded (r : Reader) : Type 0 where
  -- it holds at most one line and one part
  pub held : r.held ≤ r.line_max + part_max
  pub begun : FitsIn r.line_max r.begun
  -- each line took a byte
  pub few : r.number ≤ r.taken

-- what an answer implies
pub record IsAnswer (old new : Reader) (result : Result Line LineFault) : Type 0 where
  -- the end comes after the last byte, and then again at each call
  pub end : result ≡ Ok End → IsTrue new.ended
  pub end_again : IsTrue old.ended → result ≡ Ok End
  -- at the end the buffer and the current line are empty
  pub done : IsTrue new.ended → (new.ahead ≡ []) × (new.begun ≡ Some [])
  pub unfinished : IsErr result → new.ended ≡ false
  -- after a line or the end the current line is empty, and the buffer has less than one part
  pub begun : IsOk result → new.begun ≡ Some []
  pub ahead : IsOk result → length new.ahead < part_max
  -- a fault, or too many bytes, is reported after the whole buffer is examined
  pub looked : (result ≡ Err ReadFault) ⊎ (result ≡ Err TooMuch) → new.ahead ≡ []
  pub too_much : (result ≡ Err TooMuch) ↔ (new.stream_max < new.taken)
  pub no_memory : (result ≡ Err NoMemory) ↔ IsTrue new.failed
