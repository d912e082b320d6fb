-- The changes that parts make together. (Own)
use Rattle.std.specs.Prelude.{List}
use Rattle.gov_ids.specs.declared.Credential.{Credential}
use Rattle.gov_ids.specs.declared.PoolId.{PoolId}
use Rattle.book_records.specs.declared.pool.Pool.{Pool}
use Rattle.gov_actions.specs.declared.state.HotState.{HotState}
use Rattle.draft_changes.specs.Changed.{Changed}
use Rattle.draft_changes.specs.ChangedAccounts.{ChangedAccounts}
use Rattle.draft_changes.specs.ChangedDreps.{ChangedDreps}

-- the changes with these parts
abbrev pub changed_of : ChangedAccounts → List (PoolId × Pool) → ChangedDreps → List (Credential × HotState) → Changed
changed_of accounts pools dreps hot = record {
  accounts = accounts.accounts;
  left = accounts.left;
  pools = pools;
  dreps = dreps.dreps;
  refreshed = dreps.refreshed;
  hot = hot;
}
