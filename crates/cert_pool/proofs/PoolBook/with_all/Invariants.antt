use Rattle.std.proofs.Common.{◌≡◌}
use Rattle.gov_ids.specs.Orders.{pool_cmp}
use Rattle.maps.specs.Maps.{with_values}
use Rattle.cert_pool.proofs.PoolBook.with_all.Given as goal

-- what is left laid over the pools so far is all laid over the pools
abbrev pub invariant-loop-p : goal.invariant-loop-p
invariant-loop-p l = with_values pool_cmp l.p-iterator l.book ≡ with_values pool_cmp l.fn.changed l.fn.self
