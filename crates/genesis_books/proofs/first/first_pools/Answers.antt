use Rattle.std.proofs.Common.{◌∙◌}
use Rattle.genesis_books.proofs.FirstBook.{pools_next, with_listed_pools}
use Rattle.genesis_books.proofs.first.first_pools.Goals as goal

pub loop-listed-init : goal.loop-listed-init
loop-listed-init c = λ i. with_listed_pools (c.as_slice-listed-items.ensures i) (c.new-pools.ensures i)

pub loop-listed-preserved : goal.loop-listed-preserved
loop-listed-preserved c =
    pools_next c.as_slice-listed-items.result.now c.loop-listed.listed-index _ c.listed-item.result c.registered.result c.loop-listed.pools c.restore.new.self c.loop-listed-test.true c.listed-item.is c.registered.ensures c.in_ok-restore.ensures.ok
    ∙ c.loop-listed.invariant
