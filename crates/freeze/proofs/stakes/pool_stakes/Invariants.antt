use Rattle.std.proofs.Common.{◌≡◌, ◌++◌, drop, map}
use Rattle.gov_ids.specs.declared.PoolId.{PoolId}
use Rattle.stake_book.specs.Stakes.{pool_stake_in}
use Rattle.freeze.proofs.stakes.pool_stakes.Given as goal

-- the stakes so far and those of the pools that are left
abbrev pub invariant-loop-p : goal.invariant-loop-p
invariant-loop-p l =
    l.stakes.items ++ map (λ (p : PoolId). (p, pool_stake_in l.stake p)) (drop l.p-index l.p-items) ≡ map (λ (p : PoolId). (p, pool_stake_in l.stake p)) l.p-items
