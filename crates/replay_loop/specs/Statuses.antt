-- The endings of a run. (Own)
use Rattle.std.specs.Prelude.{◌≡◌, ℕ, Result, Ok, Err}
use Rattle.line_runs.specs.declared.fault.RunFault.{RunFault}
use Rattle.line_runs.specs.declared.fault.RunFault.TheVariants as faults
use Rattle.replay_loop.specs.declared.fault.AnswerFault.{AnswerFault}
use Rattle.replay_loop.specs.declared.fault.AnswerFault.TheVariants as answer_faults
use Rattle.replay_loop.specs.declared.status.GenesisCause.{GenesisCause}
use Rattle.replay_loop.specs.declared.status.Status.{Status}
use Rattle.replay_loop.specs.declared.status.Status.TheVariants as statuses

-- the status with which the program ends
abbrev pub status_number : Status → ℕ
status_number statuses.Done = 0
status_number statuses.Usage = 2
status_number (statuses.BadGenesis cause) = 3
status_number statuses.ReadFault = 4
status_number statuses.WriteFault = 5
status_number statuses.NoMemory = 6
status_number statuses.TooMuch = 7
status_number statuses.BadCheckpoint = 8

-- 2, 4, 5 and 8 say which status it is
pub record NumbersTell : Type 0 where
  pub usage : (status : Status) → status_number status ≡ 2 → status ≡ statuses.Usage
  pub read_fault : (status : Status) → status_number status ≡ 4 → status ≡ statuses.ReadFault
  pub write_fault : (status : Status) → status_number status ≡ 5 → status ≡ statuses.WriteFault
  pub bad_checkpoint : (status : Status) → status_number status ≡ 8 → status ≡ statuses.BadCheckpoint

-- why a run over the ledger does not come to its end
abbrev pub ReplayFault : Type 0
ReplayFault = RunFault GenesisCause

-- where there is no answer
abbrev pub fault_of_answer : AnswerFault → ReplayFault
fault_of_answer (answer_faults.BadGenesis cause) = faults.Stop cause
fault_of_answer answer_faults.NoMemory = faults.NoMemory

-- how a run ends for such a fault
abbrev pub status_of_fault : ReplayFault → Status
status_of_fault (faults.Stop cause) = statuses.BadGenesis cause
status_of_fault faults.ReadFault = statuses.ReadFault
status_of_fault faults.WriteFault = statuses.WriteFault
status_of_fault faults.NoMemory = statuses.NoMemory
status_of_fault faults.TooMuch = statuses.TooMuch

-- how a run ends by what its loop answers
abbrev pub status_by : {Value : Type 0} → Result Value ReplayFault → Status
status_by (Ok value) = statuses.Done
status_by (Err fault) = status_of_fault fault
