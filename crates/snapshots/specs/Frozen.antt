-- What a `Frozen` holds of its snapshot: all except the account entries, which their book keeps.
-- (CIP-1694, Changes to the stake snapshot; EPOCH of the formal specification)
use Rattle.std.specs.Prelude.{map}
use Rattle.maps.specs.Maps.{value_at}
use Rattle.gov_ids.specs.declared.PoolId.{PoolId}
use Rattle.gov_ids.specs.Orders.{pool_cmp}
use Rattle.gov_model.specs.Snapshot.{Snapshot}
use Rattle.gov_model.specs.Sides.{default_vote}
use Rattle.gov_model.specs.Stake.{pool_stake}
use Rattle.snapshots.specs.declared.frozen.Frozen.{Frozen}
use Rattle.snapshots.specs.declared.frozen.FrozenPool.{FrozenPool}

-- a pool of mark: its reward account (none if no longer registered), its stake and default vote
abbrev pub frozen_pool : Snapshot → PoolId → FrozenPool
frozen_pool s p =
    record { pool = p; account = value_at pool_cmp s.pool_accounts p; stake = pool_stake s p; default_vote = default_vote s p }

-- what is held of a snapshot
abbrev pub frozen_copy_of : Snapshot → Frozen
frozen_copy_of s = record {
  epoch = s.epoch;
  start = s.start;
  dreps = s.dreps;
  pools = map (λ m. frozen_pool s m.0) s.mark;
  hot = s.hot;
  proposals = s.proposals;
}
