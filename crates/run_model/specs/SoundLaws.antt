-- The laws that records keep a World sound; src/ of run_laws has a function for each law. (Own)
use Rattle.std.specs.Prelude.{◌≡◌, ℕ, ◌+◌, ◌≤◌, None, true, sum_by}
use Rattle.gov_ids.specs.declared.Drep.TheVariants as drep
use Rattle.ledger_model.specs.of_tx_records.declared.genesis.Genesis.{Genesis}
use Rattle.ledger_model.specs.of_tx_records.declared.record.Record.{Record}
use Rattle.ledger_model.specs.of_tx_records.GenesisLimits as genesis_limits
use Rattle.ledger_model.specs.of_tx_records.RecordLimits.{is_within_limits}
use Rattle.ledger_model.specs.of_gov_model.Snapshot.{Snapshot}
use Rattle.ledger_model.specs.of_gov_model.Stake.{drep_stake, pool_stake}
use Rattle.run_model.specs.Genesis.{genesis_fault, world_of_genesis}
use Rattle.run_model.specs.SoundWorld.{AreSoundStakes, IsSoundSnapshot, IsSoundWorld}
use Rattle.run_model.specs.Step.{step}
use Rattle.run_model.specs.World.{World}

-- a genesis that breaks no rule gives a sound World
abbrev pub GenesisBeginsSound : Type 0
GenesisBeginsSound = (g : Genesis) → genesis_limits.is_within_limits g ≡ true → genesis_fault g ≡ None → IsSoundWorld (world_of_genesis g)

-- each record leaves a sound World sound
abbrev pub RecordsKeepSound : Type 0
RecordsKeepSound = (w : World) (r : Record) → IsSoundWorld w → is_within_limits r ≡ true → IsSoundWorld (step w r).0

-- the stakes of the frozen DReps and of the two predefined ones are together at most the supply
abbrev pub DrepStakesAreWithin : Type 0
DrepStakesAreWithin = (s : ℕ) (f : Snapshot) → IsSoundSnapshot s f →
    sum_by (λ d. drep_stake f (drep.Registered d.0)) f.dreps + drep_stake f drep.Abstain + drep_stake f drep.NoConfidence ≤ s

-- the stakes of the pools of mark, with the deposits that count, sum to at most twice the supply
abbrev pub PoolStakesAreWithin : Type 0
PoolStakesAreWithin = (s : ℕ) (f : Snapshot) → IsSoundSnapshot s f → AreSoundStakes s f.mark → sum_by (λ p. pool_stake f p.0) f.mark ≤ s + s
