use Rattle.std.proofs.Common.{◌≡◌, ◌++◌, drop, map}
use Rattle.freeze.specs.Pools.{pool_by}
use Rattle.freeze.proofs.pools.frozen_pools.Given as goal

-- the pools so far and those that are left
abbrev pub invariant-loop-p : goal.invariant-loop-p
invariant-loop-p l = l.frozen.items ++ map (pool_by l.pools l.accounts.live l.deposits) (drop l.p-index l.mark) ≡ map (pool_by l.pools l.accounts.live l.deposits) l.mark
