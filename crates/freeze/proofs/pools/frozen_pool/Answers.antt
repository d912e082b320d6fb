use Rattle.std.proofs.Common.{arith}
use Rattle.gov_ids.specs.Orders.{pool_cmp}
use Rattle.freeze.proofs.Adding.{amount_within}
use Rattle.freeze.proofs.pools.frozen_pool.Goals as goal

pub overflow_add-result : goal.overflow_add-result
overflow_add-result c = omega (arith, c.get.ensures.value, amount_within pool_cmp c.args.pool c.args.deposits.now, c.requires.room)
