-- What the parts of a draft keep true. (Own)
use Rattle.std.specs.Prelude.{ℕ, ◌-◌, ◌*◌, ◌^◌, ◌≤◌}
use Rattle.maps.specs.Maps.{IsMap}
use Rattle.gov_ids.specs.Orders.{credential_cmp, pool_cmp}
use Rattle.ledger_model.specs.Ledger.{Ledger}
use Rattle.dormant_laws.specs.of_run_model.Laws.{IsWithinDormantBound}
use Rattle.draft_changes.specs.ChangedHot as changed_hot
use Rattle.draft_changes.specs.ChangedHot.{ChangedHot}
use Rattle.draft_changes.specs.ChangedPools as changed_pools
use Rattle.draft_changes.specs.ChangedPools.{ChangedPools}
use Rattle.draft_changes.specs.Changed.{Changed, laid_over}
use Rattle.live_ledger.specs.Kept.{IsLiveLedger}

-- it begins with a live ledger; its maps are maps; the pools and hot entries that it covers are
-- those of that ledger; its expiries are within the dormant bound
-- each change moved at most a number of 64 bits
pub record IsDrafted (start : Ledger) (changed : Changed) (pool_changes : ChangedPools) (hot_changes : ChangedHot) (refunds deposits accounts_changes changes : ℕ) : Type 0 where
  pub kept : IsLiveLedger start
  pub pools : IsMap pool_cmp changed.pools
  pub dreps : IsMap credential_cmp changed.dreps
  pub hot : IsMap credential_cmp changed.hot
  pub pools_over : changed_pools.IsOver start.pools pool_changes
  pub hot_over : changed_hot.IsOver start.hot hot_changes
  pub timely : IsWithinDormantBound (laid_over changed start)
  pub refunds_fit : refunds ≤ changes * (2 ^ 64 - 1)
  pub deposits_fit : deposits ≤ changes * (2 ^ 64 - 1)
  pub numbered : accounts_changes ≤ changes
  pub few : changes ≤ 2 ^ 32
