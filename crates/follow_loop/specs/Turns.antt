-- How the turn of one reading ends. (Own)
use Rattle.std.specs.Prelude.{Option, Some, None, Result, Ok, Err, ⊤}
use Rattle.line_runs.specs.Batches.{Gathered}
use Rattle.line_runs.specs.Plays.{Turn}
use Rattle.line_runs.specs.Turns.{IsTurned}
use Rattle.follow_model.specs.Chain.{Chain}
use Rattle.replay_loop.specs.Statuses.{ReplayFault}
use Rattle.replay_loop.specs.declared.status.GenesisCause.{GenesisCause}
use Rattle.run_model.specs.World.{World}
use Rattle.follow_loop.specs.Answers.{FollowsAt}
use Rattle.follow_loop.specs.Plays.{Position}

module _ {State : Type 0} (follows : State → World → Chain → Type 0) where
  -- a state follows a stream exactly if its genesis was read
  abbrev pub StandsAt : Option State → Option Position → Type 0
  StandsAt None None = Unit {0}
  StandsAt (Some state) (Some p) = FollowsAt follows state p
  StandsAt None (Some p) = ⊥
  StandsAt (Some state) None = ⊥

  -- if it ends well, the new state is where the turn leads
  abbrev pub IsFollowedTo : Turn (Option Position) GenesisCause → Gathered → Gathered → Result State ReplayFault → Type 0
  IsFollowedTo turn g g' (Ok after) = IsTurned (StandsAt (Some after)) turn g g' (Ok tt)
  IsFollowedTo turn g g' (Err fault) = IsTurned (λ _. ⊤) turn g g' (Err fault)
