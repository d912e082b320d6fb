-- What changes of pools cover, and which keys other pools have after them.
use Rattle.std.proofs.Common.{◌≡◌, ℕ, List, [], not, ◌&&◌, ◌||◌, nat_lt}
use Rattle.gov_ids.specs.declared.PoolId.{PoolId}
use Rattle.gov_ids.specs.Orders.{pool_cmp}
use Rattle.gov_ids.specs.Same.{same_pool}
use Rattle.gov_ids.proofs.Exacts.{pool_exact}
use Rattle.gov_ids.proofs.Totals.{pool_total}
use Rattle.book_records.specs.declared.pool.Pool.{Pool}
use Rattle.book_records.specs.Pools.{is_key_of_other, uses_key}
use Rattle.cert_pool.specs.Keys.{count_of_others}
use Rattle.maps.specs.Maps.{IsMap, with_values}
use Rattle.draft_changes.specs.ChangedPools.{covered_by}
use Rattle.draft_changes.proofs.Covering.{nothing_covered}
use Rattle.draft_changes.proofs.Passing.{passes_after}

abbrev pub Pools : Type 0
Pools = List (PoolId × Pool)

-- no change covers anything
pub none_covered : (pools : Pools) → covered_by [] pools ≡ []
none_covered pools = nothing_covered pool_cmp pools

-- another pool has a key after changes where a changed one has it, or more other pools have it than are covered
pub key_after : (changed pools : Pools) (key : List ℕ) (p : PoolId) → IsMap pool_cmp changed → IsMap pool_cmp pools
    → is_key_of_other key p (with_values pool_cmp changed pools)
    ≡ (is_key_of_other key p changed || nat_lt (count_of_others key p (covered_by changed pools)) (count_of_others key p pools))
key_after changed pools key p g h = passes_after pool_total pool_exact (λ q t. not (same_pool q p) && uses_key key t) changed pools g h
