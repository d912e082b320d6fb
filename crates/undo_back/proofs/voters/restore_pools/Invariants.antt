use Rattle.std.proofs.Common.{◌≡◌, drop}
use Rattle.gov_ids.specs.Orders.{pool_cmp}
use Rattle.undo_model.specs.Undone.{with_old}
use Rattle.undo_back.proofs.voters.restore_pools.Given as goal

-- what is left put back over the pools so far is all put back
abbrev pub invariant-loop-pool : goal.invariant-loop-pool
invariant-loop-pool l = with_old pool_cmp (drop l.pool-index l.olds) l.pools ≡ with_old pool_cmp l.olds l.fn.pools
