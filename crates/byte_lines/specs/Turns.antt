-- The steps of a reader of lines.
use Rattle.std.specs.Prelude.{◌≡◌, ℕ, ◌+◌, ◌≤◌, ◌<◌, ◌++◌, ◌⊎◌, ◌↔◌, true, false, IsTrue, IsOk, IsErr, List, [], Option, Some, None, Result, Ok, Err, length}
use Rattle.std.specs.Io.KnownBytes.{IsAtEnd}
use Rattle.no_memory.specs.declared.NoMemory.{NoMemory as OutOfMemory}
use Rattle.byte_lines.specs.Answers.{Advances, HasTaken, PassesLine, line_given, TextStays}
use Rattle.byte_lines.specs.Pieces.{has_feed}
use Rattle.byte_lines.specs.Progress.{HasRead}
use Rattle.byte_lines.specs.Reader.{Reader, part_max}
use Rattle.byte_lines.specs.declared.lines.Line.{Line}
use Rattle.byte_lines.specs.declared.lines.Line.TheVariants.{End}
use Rattle.byte_lines.specs.declared.lines.LineFault.{LineFault}
use Rattle.byte_lines.specs.declared.lines.LineFault.TheVariants.{ReadFault, TooMuch, NoMemory}

-- the reader has not stopped
pub record IsReading (r : Reader) : Type 0 where
  pub ended : r.ended ≡ false
  pub failed : r.failed ≡ false
  pub within : r.taken ≤ r.stream_max

-- for every stream: the reader gave these lines more of it
abbrev pub Gives : Reader → Reader → Option (List ℕ) → Option (List ℕ) → List (Option (List ℕ)) → Type 0
Gives old new left left' more =
    (bytes : List ℕ) (given : List (Option (List ℕ))) →
    HasRead bytes old left given → HasRead bytes new left' (given ++ more)

-- a line was given
pub record EndsLine (old new : Reader) (line : Line) : Type 0 where
  pub reader : new ≡ record old { begun = Some []; ahead = new.ahead; held = new.held; text = new.text; number = old.number + 1 }
  pub given : length (line_given (Ok line) new) ≡ 1
  pub text : TextStays old new (Ok line)
  pub ahead : length new.ahead < length old.ahead
  pub gives : (left : Option (List ℕ)) → Gives old new left left (line_given (Ok line) new)
  pub took : (left : Option (List ℕ)) → HasTaken old new left left (line_given (Ok line) new)
  pub passes : PassesLine old new line

-- the whole buffer is examined, and has no line feed
pub record GoesOn (old new : Reader) : Type 0 where
  pub reader : new ≡ record old { begun = new.begun; ahead = []; held = new.held }
  pub none : has_feed old.ahead ≡ false
  pub gives : (left : Option (List ℕ)) → Gives old new left left []
  pub took : (left : Option (List ℕ)) → HasTaken old new left left []

-- the buffer has a line feed, or it has none, or memory ran out
abbrev pub LooksAhead : Reader → Reader → Result (Option Line) OutOfMemory → Type 0
LooksAhead old new (Ok (Some line)) = EndsLine old new line
LooksAhead old new (Ok None) = GoesOn old new
LooksAhead old new (Err error) = new ≡ old

-- the end of the source came: it ended the line begun, if there was one
pub record Ends (old new : Reader) (line : Line) : Type 0 where
  pub reader : new ≡ record old { begun = Some []; ahead = []; held = new.held; text = new.text; number = new.number; ended = true }
  pub text : TextStays old new (Ok line)
  pub number : new.number ≡ old.number + length (line_given (Ok line) new)
  pub gives : (left : Option (List ℕ)) → IsAtEnd left → Gives old new left left (line_given (Ok line) new)
  pub took : (left : Option (List ℕ)) → IsAtEnd left → HasTaken old new left left (line_given (Ok line) new)

-- a read returned bytes, or the end
pub record TakesPart (old new : Reader) (left left' : Option (List ℕ)) (count : ℕ) : Type 0 where
  pub reader : new ≡ record old { taken = old.taken + count; ahead = new.ahead; held = new.held }
  pub within : old.taken + count ≤ old.stream_max
  pub came : length new.ahead ≡ count
  pub end : count ≡ 0 → IsAtEnd left'
  pub gives : Gives old new left left' []
  pub took : HasTaken old new left left' []

-- a byte beyond the limit of the stream came
pub record TakesOver (old new : Reader) (left left' : Option (List ℕ)) : Type 0 where
  pub reader : new ≡ record old { taken = old.taken + 1; held = new.held }
  pub full : old.taken ≡ old.stream_max
  pub gives : Gives old new left left' []
  pub took : HasTaken old new left left' []

-- nothing came
pub record TakesNone (old new : Reader) (left left' : Option (List ℕ)) : Type 0 where
  pub reader : new ≡ record old { held = new.held }
  pub gives : Gives old new left left' []
  pub took : HasTaken old new left left' []

-- a read returned bytes, the end, one byte too many, or nothing
abbrev pub TakesMore : Reader → Reader → Option (List ℕ) → Option (List ℕ) → Result ℕ LineFault → Type 0
TakesMore old new left left' (Ok count) = TakesPart old new left left' count
TakesMore old new left left' (Err TooMuch) = TakesOver old new left left'
TakesMore old new left left' (Err ReadFault) = TakesNone old new left left'
TakesMore old new left left' (Err NoMemory) = TakesNone old new left left'

-- a reader that has not stopped reads until its next answer
pub record ReadsOn (old new : Reader) (left left' : Option (List ℕ)) (result : Result Line LineFault) : Type 0 where
  pub advances : Advances old new result
  pub gives : Gives old new left left' (line_given result new)
  pub failed : new.failed ≡ false
  pub end : result ≡ Ok End → IsTrue new.ended
  pub unfinished : IsErr result → new.ended ≡ false
  pub begun : IsOk result → new.begun ≡ Some []
  pub ahead : IsOk result → length new.ahead < part_max
  pub looked : (result ≡ Err ReadFault) ⊎ (result ≡ Err TooMuch) → new.ahead ≡ []
  pub too_much : (result ≡ Err TooMuch) ↔ (new.stream_max < new.taken)
