use Rattle.std.proofs.Common.{◌≡◌, ◌+◌, drop, sum_by}
use Rattle.snapshots.specs.declared.frozen.FrozenPool.{FrozenPool}
use Rattle.pass_replay.proofs.checked.stakes_of_pools.Given as goal

-- the sum so far with the stakes that are left
abbrev pub invariant-loop-p : goal.invariant-loop-p
invariant-loop-p l = l.sum + sum_by (λ (p : FrozenPool). p.stake) (drop l.p-index l.pools) ≡ sum_by (λ (p : FrozenPool). p.stake) l.pools
