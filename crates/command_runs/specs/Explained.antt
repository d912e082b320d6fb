-- How a run of `explain` ends. (Own)
use Rattle.std.specs.Prelude.{◌≡◌, ℕ, List, Option, Result}
use Rattle.line_runs.specs.Runs.{IsRunOf}
use Rattle.explain_loop.specs.Plays.{explain_run}
use Rattle.replay_loop.specs.declared.status.Status.{Status}
use Rattle.replay_loop.specs.Statuses.{ReplayFault, status_by}

-- by its status, if its source gave its bytes
pub record IsExplainRun (status : Status) (bytes : List ℕ) (left had has : Option (List ℕ)) : Type 0 where
  pub ended : Result (Unit {0}) ReplayFault
  pub is : status ≡ status_by ended
  pub run : IsRunOf explain_run bytes left had has ended
