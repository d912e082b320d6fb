use Rattle.std.proofs.Common.{◌≡◌, ◌++◌, drop, map}
use Rattle.frozen_lists.specs.Pools.{pool_by}
use Rattle.frozen_lists.proofs.pools.frozen_pools.Given as goal

-- the pools so far and those that are left
abbrev pub invariant-loop-pool : goal.invariant-loop-pool
invariant-loop-pool l = l.frozen.items ++ map (pool_by l.entries l.accounts l.deposits) (drop l.pool-index l.mark) ≡ map (pool_by l.entries l.accounts l.deposits) l.mark
