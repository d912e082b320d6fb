use Rattle.std.proofs.Common.{◌≡◌, ◌≤◌, ◌+◌, drop, unwrap_or}
use Rattle.coin_frac.specs.Totals.{total_of}
use Rattle.freeze.specs.Deposits.{paid_with}
use Rattle.gov_ids.specs.Orders.{pool_cmp}
use Rattle.gov_ids.specs.declared.PoolId.{PoolId}
use Rattle.gov_model.specs.Proposals.{deposits_of}
use Rattle.maps.specs.Maps.{value_at}
use Rattle.freeze.proofs.deposits.deposits_by_pool.Given as goal

-- what is added so far, with what is left, is all; its sum is at most that of the proposals so far
abbrev pub invariant-loop-i : goal.invariant-loop-i
invariant-loop-i l =
    (total_of l.deposits + deposits_of (drop l.i l.store) ≤ deposits_of l.store)
    × ((p : PoolId) → unwrap_or (value_at pool_cmp l.deposits p) 0 + paid_with l.accounts.live (drop l.i l.store) p ≡ paid_with l.accounts.live l.store p)
