-- What a function that answers the readings of a followed stream requires and gives. (Own)
use Rattle.std.specs.Prelude.{◌≡◌, ◌≤◌, ℕ, Option, Some, None, Result, Ok, Err, ⊤, true}
use Rattle.run_model.specs.World.{World}
use Rattle.tx_records.specs.declared.genesis.Genesis.{Genesis}
use Rattle.replay_loop.specs.declared.fault.AnswerFault.{AnswerFault}
use Rattle.replay_loop.specs.declared.fault.AnswerFault.TheVariants as faults
use Rattle.replay_loop.specs.Outcomes.{genesis_outcome}
use Rattle.follow_records.specs.declared.record.FollowReading.{FollowReading}
use Rattle.follow_model.specs.Chain.{Chain}
use Rattle.follow_model.specs.FollowLines.{chain_after_reading}
use Rattle.follow_loop.specs.Outcomes.{follow_outcome_of}
use Rattle.follow_loop.specs.Plays.{Position, begun, genesis_read}
use Rattle.follow_loop.specs.Readings.{is_reading_within}
use Rattle.follow_loop.specs.declared.outcome.FollowOutcome.{FollowOutcome}
use Rattle.follow_loop.specs.declared.outcome.FollowOutcome.TheVariants as outcomes

module _ {State : Type 0} (follows : State → World → Chain → Type 0) where
  -- the state follows a stream that is at this position
  abbrev pub FollowsAt : State → Position → Type 0
  FollowsAt state p = follows state p.start p.chain

  -- the state, if there is one, follows some stream
  abbrev pub IsSomewhere : Option State → Type 0
  IsSomewhere None = Unit {0}
  IsSomewhere (Some state) = (p : Position) × FollowsAt state p

  -- the state of the genesis that was read first and its pots, or the cause for which there is none
  abbrev pub BeginsFollow : FollowReading → Result (State × FollowOutcome) AnswerFault → Type 0
  BeginsFollow r (Ok (after, outcome)) =
      (g : Genesis) × (genesis_read r ≡ Ok g) × FollowsAt after (begun g) × (outcome ≡ outcomes.Plain (genesis_outcome g))
  BeginsFollow r (Err (faults.BadGenesis cause)) = genesis_read r ≡ Err cause
  BeginsFollow r (Err faults.NoMemory) = ⊤

  -- wherever the state before was, the state after it is where the reading leads, with its outcome
  abbrev pub FollowsOn : State → FollowReading → Result (State × FollowOutcome) AnswerFault → Type 0
  FollowsOn before r (Ok (after, outcome)) =
      (start : World) (c : Chain) → follows before start c
      → follows after start (chain_after_reading start c r) × (outcome ≡ follow_outcome_of start c r)
  FollowsOn before r (Err (faults.BadGenesis cause)) = ⊥
  FollowsOn before r (Err faults.NoMemory) = ⊤

  -- the answer to what was read; there is no state before the genesis
  abbrev pub FollowAnswers : Option State → FollowReading → Result (State × FollowOutcome) AnswerFault → Type 0
  FollowAnswers None r result = BeginsFollow r result
  FollowAnswers (Some before) r result = FollowsOn before r result

  -- the function: for what is within its limits, states that follow some stream and 1 to 64
  -- workers, the same answers for any number of workers
  pub record FollowsEach (pre : ℕ → Option State → FollowReading → Type 0) (post : ℕ → Option State → FollowReading → Result (State × FollowOutcome) AnswerFault → Type 0) : Type 0 where
    pub asked : (workers : ℕ) (before : Option State) (r : FollowReading) → 1 ≤ workers → workers ≤ 64 → is_reading_within r ≡ true → IsSomewhere before
        → pre workers before r
    pub answered : (workers : ℕ) (before : Option State) (r : FollowReading) (result : Result (State × FollowOutcome) AnswerFault) → workers ≤ 64
        → post workers before r result → FollowAnswers before r result
