use Rattle.std.proofs.Common.{◌≡◌, ◌≤◌, ◌+◌, drop, unwrap_or}
use Rattle.coin_frac.specs.Totals.{total_of}
use Rattle.frozen_lists.specs.Pools.{paid_with}
use Rattle.gov_ids.specs.Orders.{pool_cmp}
use Rattle.gov_ids.specs.declared.PoolId.{PoolId}
use Rattle.gov_model.specs.Proposals.{deposits_of}
use Rattle.maps.specs.Maps.{value_at}
use Rattle.frozen_lists.proofs.deposits.deposits_by_pool.Given as goal

-- what is added so far, with what is left, is all; its sum is at most that of the proposals so far
abbrev pub invariant-loop-proposal : goal.invariant-loop-proposal
invariant-loop-proposal l =
    (total_of l.deposits + deposits_of (drop l.proposal-index l.proposals) ≤ deposits_of l.proposals)
    × ((p : PoolId) → unwrap_or (value_at pool_cmp l.deposits p) 0 + paid_with l.entries (drop l.proposal-index l.proposals) p ≡ paid_with l.entries l.proposals p)
