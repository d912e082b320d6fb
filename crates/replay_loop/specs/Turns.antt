-- How the turn of one record ends. (Own)
use Rattle.std.specs.Prelude.{◌≡◌, Option, Some, None, Result, Ok, Err, ⊤}
use Rattle.byte_lines.specs.declared.sink.SinkFault.{SinkFault}
use Rattle.line_runs.specs.Batches.{Gathered, TellsAll, TellsPart}
use Rattle.line_runs.specs.Plays.{Turn}
use Rattle.line_runs.specs.Turns.{IsTurned}
use Rattle.run_model.specs.World.{World}
use Rattle.tx_records.specs.declared.record.Reading.{Reading}
use Rattle.replay_loop.specs.Plays.{Stood, Telling}
use Rattle.replay_loop.specs.Statuses.{ReplayFault}
use Rattle.replay_loop.specs.declared.status.GenesisCause.{GenesisCause}

-- what comes ahead of an answer was told, all of it or a prefix; before the genesis nothing
abbrev pub HasToldAhead
    : {Kept : Type 0} → Telling Kept → Kept → Option World → Reading → Gathered → Gathered → Result (Unit {0}) SinkFault → Type 0
HasToldAhead t k None r g g' (Ok done) = g' ≡ g
HasToldAhead t k None r g g' (Err e) = ⊥
HasToldAhead t k (Some w) r g g' (Ok done) = TellsAll g.taken g'.taken g.batch g'.batch (t.aheads k w r)
HasToldAhead t k (Some w) r g g' (Err e) = TellsPart g.taken g'.taken g.batch g'.batch (t.aheads k w r)

-- for states with such Worlds: if it ends well, the command is at the World of the new state, and
-- keeps what is kept now
abbrev pub IsTurnedTo
    : {State Kept : Type 0} → (State → World) → Kept → Turn (Stood Kept) GenesisCause → Gathered → Gathered → Result State ReplayFault → Type 0
IsTurnedTo world kept turn g g' (Ok after) = IsTurned (λ s. s ≡ record { state = Some (world after); kept = kept }) turn g g' (Ok tt)
IsTurnedTo world kept turn g g' (Err fault) = IsTurned (λ _. ⊤) turn g g' (Err fault)
