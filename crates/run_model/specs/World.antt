-- The whole state as plain data: the ledger that transactions see, and what epochs add to it.
-- (EpochState and NewEpochState of the formal specification)
use Rattle.std.specs.Prelude.{ℕ, List, Option}
use Rattle.gov_ids.specs.declared.PoolId.{PoolId}
use Rattle.ledger_model.specs.of_tx_records.declared.record.Rewards.{Rewards}
use Rattle.ledger_model.specs.of_gov_model.Snapshot.{Snapshot}
use Rattle.ledger_model.specs.Ledger.{Ledger}

-- the whole state
pub record World : Type 0 where
  -- what transactions see and change
  pub ledger : Ledger
  -- the reward update that the next boundary applies
  pub pending : Option Rewards
  -- how many frozen entries were counted
  pub counted : ℕ
  -- the stakes of the pools at the last three boundaries, and the fee pot at the last one
  pub mark : List (PoolId × ℕ)
  pub set : List (PoolId × ℕ)
  pub go : List (PoolId × ℕ)
  pub noted_fees : ℕ
  -- what was frozen when the epoch began
  pub frozen : Snapshot

-- the World with a change of its ledger
abbrev pub on_ledger : (Ledger → Ledger) → World → World
on_ledger change w = record w { ledger = change w.ledger }
