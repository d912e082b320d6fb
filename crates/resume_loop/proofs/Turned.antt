-- The turns of a resume are those of a replay that has a World, with other numbers.
use Rattle.std.proofs.Common.{◌≡◌, ◌≢◌, ◌↔◌, ℕ, ◌+◌, ◌-◌, List, [], Option, Some, None, Result, Ok, Err, refl, subst}
use Rattle.byte_lines.specs.Faults.{CountsFaults}
use Rattle.std.specs.Prelude.{⊤}
use Rattle.line_runs.specs.Batches.{Gathered, TellsAll, TellsPart}
use Rattle.line_runs.specs.Plays.{Goes}
use Rattle.line_runs.specs.Turns.{IsPassed, IsTurnOf, IsTurned}
use Rattle.line_runs.specs.declared.fault.RunFault.TheVariants as faults
use Rattle.line_runs.proofs.Fronts.{took_none}
use Rattle.run_model.specs.World.{World}
use Rattle.text_model.specs.Runs.{reading_lines, text_of_lines, world_after_reading}
use Rattle.text_model.specs.Words.{Text}
use Rattle.tx_records.specs.declared.record.Reading.{Reading}
use Rattle.replay_loop.specs.Outcomes.{outcome_of, outcome_text}
use Rattle.replay_loop.specs.Plays.{Stood, last_by, play_of}
use Rattle.replay_loop.specs.Statuses.{ReplayFault}
use Rattle.replay_loop.specs.Texts.{texts_told}
use Rattle.replay_loop.proofs.Lines.{lines_are}
use Rattle.resume_loop.specs.Plays.{Resumed, resume_result, resumed_play}
use Rattle.resume_loop.specs.declared.fault.NoCheckpoint.{NoCheckpoint}

-- where a replay stands that has a World
abbrev pub at_world : World → Stood (Unit {0})
at_world w = record { state = Some w; kept = tt }

module _ (stands' : Stood (Unit {0}) → Type 0) (stands : Resumed → Type 0) (s : Resumed) (keeps : (v : World) → stands' (at_world v) → stands (record s { world = v })) where
  -- one record
  turned : (n : ℕ) (r : Reading) (g g' : Gathered) (result : Result (Unit {0}) ReplayFault)
      → IsTurned stands' (Goes (at_world (world_after_reading s.world r)) (outcome_text n (world_after_reading s.world r) (outcome_of s.world r))) g g' result
      → IsTurned stands (Goes (record s { world = world_after_reading s.world r }) (text_of_lines n (reading_lines s.world r))) g g' (resume_result result)
  turned n r g g' (Ok done) h = (
    keeps (world_after_reading s.world r) h.0,
    subst (λ (ls : List (List Text)). TellsAll g.taken g'.taken g.batch g'.batch (text_of_lines n ls)) (lines_are s.world r) h.1,
  )
  turned n r g g' (Err (faults.Stop cause)) h = absurd h
  turned n r g g' (Err faults.ReadFault) h = h
  turned n r g g' (Err faults.WriteFault) h =
      subst (λ (ls : List (List Text)). TellsPart g.taken g'.taken g.batch g'.batch (text_of_lines n ls)) (lines_are s.world r) h
  turned n r g g' (Err faults.NoMemory) h =
      subst (λ (ls : List (List Text)). TellsPart g.taken g'.taken g.batch g'.batch (text_of_lines n ls)) (lines_are s.world r) h
  turned n r g g' (Err faults.TooMuch) h = h

  -- a line that says nothing
  still : (g g' : Gathered) (result : Result (Unit {0}) ReplayFault) → IsPassed (stands' (at_world s.world)) g g' result → IsPassed (stands s) g g' (resume_result result)
  still g g' (Ok done) h = (keeps s.world h.0, h.1)
  still g g' (Err (faults.Stop cause)) h = absurd h
  still g g' (Err faults.ReadFault) h = h
  still g g' (Err faults.WriteFault) h = h
  still g g' (Err faults.NoMemory) h = h
  still g g' (Err faults.TooMuch) h = h

  -- the line of this number
  pub line_turned : (number n : ℕ) (said : Option Reading) (g g' : Gathered) (result : Result (Unit {0}) ReplayFault) → n ≡ (number - s.passed) + s.line
      → IsTurnOf (play_of texts_told) stands' (at_world s.world) n said g g' result → IsTurnOf resumed_play stands s number said g g' (resume_result result)
  line_turned number n None g g' result is h = still g g' result h
  line_turned number n (Some r) g g' result is h =
      subst (λ (m : ℕ). IsTurned stands (Goes (record s { world = world_after_reading s.world r }) (text_of_lines m (reading_lines s.world r))) g g' (resume_result result)) is
      (turned n r g g' result h)

-- the end
pub end_turned : (w : World) (n : ℕ) (g g' : Gathered) (result : Result (Unit {0}) ReplayFault) → IsTurned (λ _. ⊤) (last_by texts_told tt n (Some w)) g g' result
    → IsTurned {Stand = Unit {0}} (λ _. ⊤) (Goes tt []) g g' (resume_result result)
end_turned w n g g' (Ok done) h = h
end_turned w n g g' (Err (faults.Stop cause)) h = absurd h
end_turned w n g g' (Err faults.ReadFault) h = h
end_turned w n g g' (Err faults.WriteFault) h = h
end_turned w n g g' (Err faults.NoMemory) h = h
end_turned w n g g' (Err faults.TooMuch) h = h

-- whatever the record is, memory may run out before it
pub line_lacking : (stands : Resumed → Type 0) (s : Resumed) (number : ℕ) (said : Option Reading) (g : Gathered) → IsTurnOf resumed_play stands s number said g g (Err faults.NoMemory)
line_lacking stands s number None g = refl
line_lacking stands s number (Some r) g = record { handed = []; took = took_none g.taken; front = (text_of_lines ((number - s.passed) + s.line) (reading_lines s.world r), refl) }

pub end_lacking : (g : Gathered) → IsTurned {Stand = Unit {0}} {Cause = NoCheckpoint} (λ _. ⊤) (Goes tt []) g g (Err faults.NoMemory)
end_lacking g = record { handed = []; took = took_none g.taken; front = ([], refl) }

-- no fault of reading, and the same faults of writing
pub never_reads : (result : Result (Unit {0}) ReplayFault) → result ≢ Err faults.ReadFault → resume_result result ≢ Err faults.ReadFault
never_reads (Ok done) other e = cc
never_reads (Err (faults.Stop cause)) other e = cc
never_reads (Err faults.ReadFault) other e = other refl
never_reads (Err faults.WriteFault) other e = cc
never_reads (Err faults.NoMemory) other e = cc
never_reads (Err faults.TooMuch) other e = cc

pub same_writes : (result : Result (Unit {0}) ReplayFault) → (resume_result result ≡ Err faults.WriteFault) ↔ (result ≡ Err faults.WriteFault)
same_writes (Ok done) = (λ e. cc, λ e. cc)
same_writes (Err (faults.Stop cause)) = (λ e. cc, λ e. cc)
same_writes (Err faults.ReadFault) = (λ e. cc, λ e. cc)
same_writes (Err faults.WriteFault) = (λ e. refl, λ e. refl)
same_writes (Err faults.NoMemory) = (λ e. cc, λ e. cc)
same_writes (Err faults.TooMuch) = (λ e. cc, λ e. cc)

pub counted_writes : {f f' : ℕ} (result : Result (Unit {0}) ReplayFault) → CountsFaults (result ≡ Err faults.WriteFault) f f' → CountsFaults (resume_result result ≡ Err faults.WriteFault) f f'
counted_writes result counts =
    let same = same_writes result in record {
      rose = λ e. counts.rose (same.0 e);
      stays = λ none. counts.stays (λ e. none (same.1 e));
      never_falls = counts.never_falls;
    }
