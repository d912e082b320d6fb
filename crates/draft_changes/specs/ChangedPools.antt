-- The pools that a draft changed, as contracts see them. (Own)
use Rattle.std.specs.Prelude.{◌≡◌, List, []}
use Rattle.gov_ids.specs.declared.PoolId.{PoolId}
use Rattle.gov_ids.specs.Orders.{pool_cmp}
use Rattle.book_records.specs.declared.pool.Pool.{Pool}
use Rattle.draft_changes.specs.Covered.{covered_entries}

-- the changed pools, and the pools of the ledger that they cover
pub record ChangedPools : Type 0 where
  pub entries : List (PoolId × Pool)
  pub covered : List (PoolId × Pool)

-- nothing is changed
abbrev pub none_changed : ChangedPools
none_changed = record { entries = []; covered = [] }

-- the pools whose id is among the changed ones
abbrev pub covered_by : List (PoolId × Pool) → List (PoolId × Pool) → List (PoolId × Pool)
covered_by changed pools = covered_entries pool_cmp changed pools

-- the covered pools are pools of this ledger
abbrev pub IsOver : List (PoolId × Pool) → ChangedPools → Type 0
IsOver pools a = a.covered ≡ covered_by a.entries pools
