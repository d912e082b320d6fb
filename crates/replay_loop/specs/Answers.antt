-- The World after a record and its outcome, by the definitions of the whole ledger. (Own)
use Rattle.std.specs.Prelude.{◌≡◌, ◌≤◌, ℕ, Option, Some, None, Result, Ok, Err, ⊤, option_map, true}
use Rattle.no_memory.specs.declared.NoMemory.{NoMemory}
use Rattle.record_stream.specs.Records.{is_within}
use Rattle.run_model.specs.Genesis.{genesis_fault, world_of_genesis}
use Rattle.run_model.specs.World.{World}
use Rattle.text_model.specs.Runs.{world_after_reading}
use Rattle.tx_records.specs.declared.genesis.Genesis.{Genesis}
use Rattle.tx_records.specs.declared.record.Reading.{Reading}
use Rattle.tx_records.specs.declared.record.Reading.TheVariants.{Read}
use Rattle.tx_records.specs.declared.record.Record.TheVariants as records
use Rattle.replay_loop.specs.declared.fault.AnswerFault.{AnswerFault}
use Rattle.replay_loop.specs.declared.fault.AnswerFault.TheVariants as faults
use Rattle.replay_loop.specs.declared.outcome.Outcome.{Outcome}
use Rattle.replay_loop.specs.Outcomes.{genesis_outcome, outcome_of}
use Rattle.replay_loop.specs.Runs.{genesis_cause, reading_fault}

-- the World of a genesis and its pots, or the cause for which there is none
abbrev pub Begins : Genesis → Result (World × Outcome) AnswerFault → Type 0
Begins g (Ok (w, outcome)) = (genesis_fault g ≡ None) × (w ≡ world_of_genesis g) × (outcome ≡ genesis_outcome g)
Begins g (Err (faults.BadGenesis cause)) = genesis_cause g ≡ Some cause
Begins g (Err faults.NoMemory) = ⊤

-- the World and the pots of what was read first, or the cause for which there is none
abbrev pub BeginsWith : Reading → Result (World × Outcome) AnswerFault → Type 0
BeginsWith r (Ok p) = (g : Genesis) × (r ≡ Read (records.Genesis g)) × Begins g (Ok p)
BeginsWith r (Err (faults.BadGenesis cause)) = reading_fault r ≡ Some cause
BeginsWith r (Err faults.NoMemory) = ⊤

-- the World after what was read, and its outcome
abbrev pub IsJudged : World → Reading → World × Outcome → Type 0
IsJudged w r (after, outcome) = (after ≡ world_after_reading w r) × (outcome ≡ outcome_of w r)

-- the World after what was read and its outcome, unless memory ran out
abbrev pub Judges : World → Reading → Result (World × Outcome) NoMemory → Type 0
Judges w r (Ok p) = IsJudged w r p
Judges w r (Err e) = ⊤

-- the answer to what was read; there is no ledger before the genesis
abbrev pub Answers : Option World → Reading → Result (World × Outcome) AnswerFault → Type 0
Answers None r result = BeginsWith r result
Answers (Some w) r (Ok p) = IsJudged w r p
Answers (Some w) r (Err (faults.BadGenesis cause)) = ⊥
Answers (Some w) r (Err faults.NoMemory) = ⊤

-- the answer to what was read, for states with such Worlds
abbrev pub AnswersAs : {State : Type 0} → (State → World) → Option World → Reading → Result (State × Outcome) AnswerFault → Type 0
AnswersAs world before r (Ok (after, outcome)) = Answers before r (Ok (world after, outcome))
AnswersAs world before r (Err fault) = Answers before r (Err fault)

-- what a function that answers requires and gives: for what is within its limits and 1 to 64
-- workers, states with the wanted Worlds, whatever the number of workers
pub record AnswersEach {State : Type 0} (world : State → World) (pre : ℕ → Option State → Reading → Type 0) (post : ℕ → Option State → Reading → Result (State × Outcome) AnswerFault → Type 0) : Type 0 where
  pub asked : (workers : ℕ) (before : Option State) (r : Reading) → 1 ≤ workers → workers ≤ 64 → is_within r ≡ true
      → pre workers before r
  pub answered : (workers : ℕ) (before : Option State) (r : Reading) (result : Result (State × Outcome) AnswerFault) → workers ≤ 64
      → post workers before r result → AnswersAs world (option_map world before) r result
