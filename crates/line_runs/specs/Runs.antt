-- How a run of a command may end, and what it has written then. (Own)
use Rattle.std.specs.Prelude.{◌≡◌, ◌⊎◌, ◌↔◌, ℕ, ◌+◌, ◌<◌, ◌++◌, List, [], ◌∷◌, Option, Some, Result, Ok, Err, IsOk, drop, length}
use Rattle.std.specs.Io.KnownBytes.{append_known}
use Rattle.byte_lines.specs.Pieces.{lines_of, open_of, whole_of}
use Rattle.byte_lines.specs.Reader.{heeded, part_max}
use Rattle.line_runs.specs.declared.fault.RunFault.{RunFault}
use Rattle.line_runs.specs.declared.fault.RunFault.TheVariants as faults
use Rattle.line_runs.specs.Batches.{IsFront}
use Rattle.line_runs.specs.Plays.{Play, Played, ended, played, records_from}

-- a run: the command, its first state, how many lines were passed before, and the reader's limits
pub record Run (Said Stand Cause : Type 0) : Type 0 where
  pub play : Play Said Stand Cause
  pub first : Stand
  pub passed : ℕ
  pub line_max : ℕ
  pub stream_max : ℕ

module _ {Said Stand Cause : Type 0} (run : Run Said Stand Cause) where
  -- what the lines of these bytes say, without those that were passed before
  abbrev pub records_in : List ℕ → List (ℕ × Said)
  records_in bytes = records_from run.play.says (run.passed + 1) (drop run.passed (lines_of run.line_max bytes))

  -- the command from its first state on
  abbrev pub played_over : List (ℕ × Said) → Played Stand Cause
  played_over records = played run.play run.first records

  -- the command over the lines of these bytes
  abbrev pub played_in : List ℕ → Played Stand Cause
  played_in bytes = played_over (records_in bytes)

  -- the command over all bytes, with its end
  abbrev pub ended_in : List ℕ → Played (Unit {0}) Cause
  ended_in bytes = ended run.play (length (lines_of run.line_max bytes)) (played_in bytes)

  -- the bytes that came are the lines that say this, and less than one part beyond them
  -- the last of these lines is whole, or no byte is left
  pub record ReadTo (came rest : List ℕ) (records : List (ℕ × Said)) : Type 0 where
    pub upto : List ℕ
    pub ahead : List ℕ
    pub cut : came ≡ upto ++ ahead
    pub less : length ahead < part_max
    pub whole : (open_of upto ≡ []) ⊎ (rest ≡ [])
    pub all : records ≡ records_in upto

  -- these come first in what the whole lines that came say
  -- or, if no byte is left, in what all lines say
  abbrev pub StandFirst : List ℕ → List ℕ → List (ℕ × Said) → Type 0
  StandFirst came rest records =
      ((later : List (ℕ × Said)) × (records_in (whole_of came) ≡ records ++ later))
      ⊎ ((rest ≡ []) × (later : List (ℕ × Said)) × (records_in came ≡ records ++ later))

  -- no byte is left, and the whole text was written
  pub record IsDone (came rest written : List ℕ) : Type 0 where
    pub read : rest ≡ []
    pub text : ended_in came ≡ record { text = written; stand = Ok tt }

  -- the command stops for this cause at a whole line that came
  -- or, if no byte is left, at any line or at the end; the text before it was written
  abbrev pub IsStopped : Cause → List ℕ → List ℕ → List ℕ → Type 0
  IsStopped cause came rest written =
      (played_in (whole_of came) ≡ record { text = written; stand = Err cause })
      ⊎ ((rest ≡ []) × (ended_in came ≡ record { text = written; stand = Err cause }))

  -- the text of the whole lines that came was written, and none of them stops the command
  pub record IsBrokenOff (came written : List ℕ) : Type 0 where
    pub stand : Stand
    pub text : played_in (whole_of came) ≡ record { text = written; stand = Ok stand }

  -- the writing ended within a line's text, and nothing came beyond the part that has that line
  pub record BreaksAtLine (came rest written : List ℕ) : Type 0 where
    pub before : List (ℕ × Said)
    pub line : ℕ × Said
    pub come : StandFirst came rest (before ++ line ∷ [])
    pub read : ReadTo came rest (before ++ line ∷ [])
    pub after : IsFront (played_over before).text written
    pub upto : IsFront written (played_over (before ++ line ∷ [])).text
    pub goes : IsOk (played_over (before ++ line ∷ [])).stand

  -- the writing ended within the text at the end
  pub record BreaksAtEnd (came rest written : List ℕ) : Type 0 where
    pub read : rest ≡ []
    pub after : IsFront (played_in came).text written
    pub upto : IsFront written (ended_in came).text
    pub goes : IsOk (ended_in came).stand

  -- a prefix of the text of the whole lines that came was written
  -- or, if no byte is left, a prefix of all text
  abbrev pub IsPart : List ℕ → List ℕ → List ℕ → Type 0
  IsPart came rest written =
      IsFront written (played_in (whole_of came)).text ⊎ ((rest ≡ []) × IsFront written (ended_in came).text)

  -- writing broke off
  pub record IsCutShort (came rest written : List ℕ) : Type 0 where
    pub part : IsPart came rest written
    pub place : BreaksAtLine came rest written ⊎ BreaksAtEnd came rest written

  -- what each result says: of the source `came` was read, `rest` is left, `written` was written
  abbrev pub Ends : List ℕ → List ℕ → List ℕ → Result (Unit {0}) (RunFault Cause) → Type 0
  Ends came rest written (Ok done) = IsDone came rest written
  Ends came rest written (Err (faults.Stop cause)) = IsStopped cause came rest written
  Ends came rest written (Err faults.ReadFault) = IsBrokenOff came written
  -- the lines are those within the limit of the stream
  Ends came rest written (Err faults.TooMuch) = IsBrokenOff (heeded run.stream_max came) written
  Ends came rest written (Err faults.WriteFault) = IsCutShort came rest written
  Ends came rest written (Err faults.NoMemory) = IsPart came rest written

  -- how a run ended, if the bytes of its source are known: the sink took what was written
  pub record IsRunOf (bytes : List ℕ) (left had has : Option (List ℕ)) (result : Result (Unit {0}) (RunFault Cause)) : Type 0 where
    pub came : List ℕ
    pub rest : List ℕ
    pub cut : bytes ≡ came ++ rest
    pub told : left ≡ Some rest
    pub written : List ℕ
    pub wrote : has ≡ append_known had written
    pub ending : Ends came rest written result
    -- the result is TooMuch if and only if the stream went on past its limit
    pub too_much : (result ≡ Err faults.TooMuch) ↔ (run.stream_max < length came)
