-- What is seen of a source and a sink, and what a run over them came to. (Own)
use Rattle.std.specs.Prelude.{◌≡◌, ℕ, List, Option, Some, Result}
use Rattle.line_runs.specs.Runs.{IsRunOf, Run}
use Rattle.load_options.specs.declared.command.LoadCommand.{LoadCommand}
use Rattle.replay_loop.specs.declared.status.GenesisCause.{GenesisCause}
use Rattle.replay_loop.specs.declared.status.Status.{Status}
use Rattle.replay_loop.specs.Loads.{IsLoaded}
use Rattle.replay_loop.specs.Plays.{Telling, run_of}
use Rattle.replay_loop.specs.Statuses.{ReplayFault, status_by}

-- what is seen of a source and a sink: the bytes that are left in the source and those that the
-- sink has taken, each where it tells them, and how many reads and writes failed
pub record Ports (Source Sink : Type 0) : Type 0 where
  pub left : Source → Option (List ℕ)
  pub failed_reads : Source → ℕ
  pub taken : Sink → Option (List ℕ)
  pub failed_writes : Sink → ℕ

module _ {Source Sink : Type 0} (ports : Ports Source Sink) (before after : Source × Sink) (status : Status) where
  -- it read the lines of the source as this run does: `Ends` of line_runs says each ending
  pub record IsLineRun {Said Stand : Type 0} (r : Run Said Stand GenesisCause) : Type 0 where
    pub ended : Result (Unit {0}) ReplayFault
    pub is : status ≡ status_by ended
    pub run : (bytes : List ℕ) → ports.left before.0 ≡ Some bytes
        → IsRunOf r bytes (ports.left after.0) (ports.taken before.1) (ports.taken after.1) ended

  -- it read the records of the source and told so of them
  abbrev pub IsReadRun : {Kept : Type 0} → Telling Kept → Kept → Type 0
  IsReadRun t k = IsLineRun (run_of t k)

  -- it replayed the generated stream and read nothing: `EndsLoad` says each ending
  pub record IsLoadRun (command : LoadCommand) : Type 0 where
    pub unread : after.0 ≡ before.0
    pub loaded : IsLoaded status command (ports.taken before.1) (ports.taken after.1)
