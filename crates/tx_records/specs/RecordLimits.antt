-- The limits of a record of any kind. (Own)
-- A call or a law that takes a record may have this as its condition.
use Rattle.std.specs.Prelude.{Bool, ◌&&◌, true}
use Rattle.tx_records.specs.declared.record.Record.{Record}
use Rattle.tx_records.specs.declared.record.Record.TheVariants.{Genesis, Block, Rewards, Tx, Print}
use Rattle.tx_records.specs.GenesisLimits as genesis
use Rattle.tx_records.specs.Limits.{is_slot, is_u32}
use Rattle.tx_records.specs.RewardsLimits as rewards
use Rattle.tx_records.specs.TxLimits as tx

-- a record within the limits
abbrev pub is_within_limits : Record → Bool
is_within_limits (Genesis g) = genesis.is_within_limits g
is_within_limits (Block slot pulse) = is_slot slot && is_u32 pulse
is_within_limits (Rewards u) = rewards.is_within_limits u
is_within_limits (Tx t) = tx.is_within_limits t
is_within_limits (Print what) = true
