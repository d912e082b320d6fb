-- The state of a run between two lines, and what it leaves when it ends. (Own)
use Rattle.std.specs.Prelude.{◌≡◌, ◌⊎◌, ◌↔◌, ℕ, ◌+◌, ◌<◌, ◌≤◌, ◌++◌, Bool, true, false, List, [], ◌∷◌, Option, Some, None, Result, Ok, Err, length, take, ⊤}
use Rattle.std.specs.Io.KnownBytes.{append_known}
use Rattle.byte_lines.specs.Progress.{HasRead}
use Rattle.byte_lines.specs.Reader.{Reader}
use Rattle.byte_lines.specs.declared.sink.SinkFault.{SinkFault}
use Rattle.byte_lines.specs.declared.lines.Line.{Line}
use Rattle.byte_lines.specs.declared.lines.Line.TheVariants.{End, TooLong, Whole}
use Rattle.line_runs.specs.declared.fault.RunFault.{RunFault}
use Rattle.line_runs.specs.declared.fault.RunFault.TheVariants as faults
use Rattle.line_runs.specs.Batches.{Gathered, IsFront}
use Rattle.line_runs.specs.Plays.{Play, records_from}
use Rattle.line_runs.specs.Turns.{IsTurnOf, IsTurned, fault_of_sink}
use Rattle.line_runs.specs.Runs.{Ends, IsCutShort, ReadTo, Run, played_over}

-- if the next line was read whole, nothing changes
-- otherwise all is handed over before the source is asked
abbrev pub IsCleared : Bool → Gathered → Gathered → Type 0
IsCleared true g g' = g' ≡ g
IsCleared false g g' = (g'.taken ≡ append_known g.taken g.batch) × (g'.batch ≡ [])

-- nothing is gathered, unless the next line was read whole
abbrev pub IsClear : {Said : Type 0} → Bool → List (ℕ × Said) → List ℕ → Type 0
IsClear true new batch = Unit {0}
IsClear false new batch = (new ≡ []) × (batch ≡ [])

module _ {Said Stand Cause : Type 0} (run : Run Said Stand Cause) where
  -- for each of these records, after the others, nothing came beyond the part that has its line
  abbrev pub AreReadTo : List ℕ → List ℕ → List (ℕ × Said) → List (ℕ × Said) → Type 0
  AreReadTo came rest before [] = Unit {0}
  AreReadTo came rest before (r ∷ rs) = ReadTo run came rest (before ++ r ∷ []) × AreReadTo came rest (before ++ r ∷ []) rs

  -- lines were read after those given before, and the command is in the state s
  -- the text of the last lines may still be gathered
  pub record Stands (bytes : List ℕ) (given : List (Option (List ℕ))) (r : Reader) (left had : Option (List ℕ)) (g : Gathered) (s : Stand)
      : Type 0 where
    pub more : List (Option (List ℕ))
    pub read : HasRead bytes r left (given ++ more)
    pub passed : run.passed ≡ length given
    pub line_max : r.line_max ≡ run.line_max
    pub stream_max : r.stream_max ≡ run.stream_max
    pub within : r.taken ≤ r.stream_max
    pub handed : List ℕ
    pub took : g.taken ≡ append_known had handed
    -- the records whose text was handed over, then those after them
    pub old : List (ℕ × Said)
    pub new : List (ℕ × Said)
    pub are : records_from run.play.says (run.passed + 1) more ≡ old ++ new
    pub goes : played_over run (old ++ new) ≡ record { text = handed ++ g.batch; stand = Ok s }
    pub before : IsFront (played_over run old).text handed
    pub reads : (came rest : List ℕ) → bytes ≡ came ++ rest → left ≡ Some rest → AreReadTo came rest old new

  -- an ending with text still gathered: it holds for all text
  -- if only a prefix of the gathered text is handed over, the run is cut short
  pub record Waits (came rest handed batch : List ℕ) (result : Result (Unit {0}) (RunFault Cause)) : Type 0 where
    pub all : Ends run came rest (handed ++ batch) result
    pub lost : (n : ℕ) → n < length batch → IsCutShort run came rest (handed ++ take n batch)

  -- for each ending what may be gathered; after a failed write nothing is
  abbrev pub EndsWaiting : List ℕ → List ℕ → List ℕ → List ℕ → Result (Unit {0}) (RunFault Cause) → Type 0
  EndsWaiting came rest handed batch (Ok done) = Waits came rest handed batch (Ok done)
  EndsWaiting came rest handed batch (Err (faults.Stop cause)) = Waits came rest handed batch (Err (faults.Stop cause))
  EndsWaiting came rest handed batch (Err faults.ReadFault) = Waits came rest handed batch (Err faults.ReadFault)
  EndsWaiting came rest handed batch (Err faults.WriteFault) = IsCutShort run came rest handed
  EndsWaiting came rest handed batch (Err faults.NoMemory) = Waits came rest handed batch (Err faults.NoMemory)
  -- the source was asked before, so nothing is gathered
  EndsWaiting came rest handed batch (Err faults.TooMuch) = (batch ≡ []) × Ends run came rest (handed ++ batch) (Err faults.TooMuch)

  -- what the loop leaves
  pub record Leaves (bytes : List ℕ) (left had : Option (List ℕ)) (g : Gathered) (result : Result (Unit {0}) (RunFault Cause)) : Type 0 where
    pub came : List ℕ
    pub rest : List ℕ
    pub cut : bytes ≡ came ++ rest
    pub told : left ≡ Some rest
    pub handed : List ℕ
    pub took : g.taken ≡ append_known had handed
    pub ending : EndsWaiting came rest handed g.batch result
    pub too_much : (result ≡ Err faults.TooMuch) ↔ (run.stream_max < length came)

-- a line, or the end, was taken
abbrev pub IsTaken
    : {Said Stand Cause : Type 0} → Play Said Stand Cause → (Stand → Type 0) → Stand → Reader → Line → Gathered → Gathered → Result (Unit {0}) (RunFault Cause)
    → Type 0
IsTaken p holds s r Whole g g' result = IsTurnOf p holds s r.number (p.says (Some r.text)) g g' result
IsTaken p holds s r TooLong g g' result = IsTurnOf p holds s r.number (p.says None) g g' result
IsTaken p holds s r End g g' result = IsTurned (λ _. ⊤) (p.last s r.number) g g' result

-- the gathered text is handed over at the end, or a prefix of it
abbrev pub IsClosed : {Cause : Type 0} → Result (Unit {0}) (RunFault Cause) → List ℕ → Option (List ℕ) → Option (List ℕ) → Result (Unit {0}) (RunFault Cause) → Type 0
IsClosed {Cause} ended batch had has result =
    ((result ≡ ended) × (has ≡ append_known had batch))
    ⊎ ((n : ℕ) × (fault : SinkFault) × (n < length batch) × (has ≡ append_known had (take n batch)) × (result ≡ Err (fault_of_sink {Cause = Cause} fault)))
