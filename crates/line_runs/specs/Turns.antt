-- What one call of a command does. (Own)
use Rattle.std.specs.Prelude.{◌≡◌, ℕ, Option, Some, None, Result, Ok, Err}
use Rattle.byte_lines.specs.declared.lines.LineFault.{LineFault}
use Rattle.byte_lines.specs.declared.lines.LineFault.TheVariants as line_faults
use Rattle.byte_lines.specs.declared.sink.SinkFault.{SinkFault}
use Rattle.byte_lines.specs.declared.sink.SinkFault.TheVariants as sink_faults
use Rattle.line_runs.specs.declared.fault.RunFault.{RunFault}
use Rattle.line_runs.specs.declared.fault.RunFault.TheVariants as faults
use Rattle.line_runs.specs.Batches.{Gathered, TellsAll, TellsPart}
use Rattle.line_runs.specs.Plays.{Goes, Play, Stops, Turn}

-- the fault of a run that has no next line
abbrev pub fault_of_line : {Cause : Type 0} → LineFault → RunFault Cause
fault_of_line line_faults.ReadFault = faults.ReadFault
fault_of_line line_faults.TooMuch = faults.TooMuch
fault_of_line line_faults.NoMemory = faults.NoMemory

-- the fault of a run whose text is not taken
abbrev pub fault_of_sink : {Cause : Type 0} → SinkFault → RunFault Cause
fault_of_sink sink_faults.WriteFault = faults.WriteFault
fault_of_sink sink_faults.NoMemory = faults.NoMemory

-- a turn was done and all its text emitted, or the command stops, or a prefix was emitted
abbrev pub IsTurned
    : {Stand Cause : Type 0} → (Stand → Type 0) → Turn Stand Cause → Gathered → Gathered → Result (Unit {0}) (RunFault Cause) → Type 0
IsTurned stands (Goes s text) g g' (Ok done) = stands s × TellsAll g.taken g'.taken g.batch g'.batch text
IsTurned stands (Goes s text) g g' (Err (faults.Stop cause)) = ⊥
IsTurned stands (Goes s text) g g' (Err faults.ReadFault) = ⊥
IsTurned stands (Goes s text) g g' (Err faults.WriteFault) = TellsPart g.taken g'.taken g.batch g'.batch text
IsTurned stands (Goes s text) g g' (Err faults.NoMemory) = TellsPart g.taken g'.taken g.batch g'.batch text
IsTurned stands (Goes s text) g g' (Err faults.TooMuch) = ⊥
IsTurned stands (Stops cause) g g' (Ok done) = ⊥
IsTurned stands (Stops cause) g g' (Err (faults.Stop other)) = (other ≡ cause) × (g' ≡ g)
IsTurned stands (Stops cause) g g' (Err faults.ReadFault) = ⊥
IsTurned stands (Stops cause) g g' (Err faults.WriteFault) = ⊥
IsTurned stands (Stops cause) g g' (Err faults.NoMemory) = g' ≡ g
IsTurned stands (Stops cause) g g' (Err faults.TooMuch) = ⊥

-- a line that says nothing changes nothing
abbrev pub IsPassed : {Cause : Type 0} → Type 0 → Gathered → Gathered → Result (Unit {0}) (RunFault Cause) → Type 0
IsPassed stays g g' (Ok done) = stays × (g' ≡ g)
IsPassed stays g g' (Err (faults.Stop cause)) = ⊥
IsPassed stays g g' (Err faults.ReadFault) = ⊥
IsPassed stays g g' (Err faults.WriteFault) = ⊥
IsPassed stays g g' (Err faults.NoMemory) = g' ≡ g
IsPassed stays g g' (Err faults.TooMuch) = ⊥

-- the turn of the line of this number, by what it says
abbrev pub IsTurnOf
    : {Said Stand Cause : Type 0} → Play Said Stand Cause → (Stand → Type 0) → Stand → ℕ → Option Said → Gathered → Gathered
    → Result (Unit {0}) (RunFault Cause) → Type 0
IsTurnOf p stands s n None g g' result = IsPassed (stands s) g g' result
IsTurnOf p stands s n (Some said) g g' result = IsTurned stands (p.turn s n said) g g' result
