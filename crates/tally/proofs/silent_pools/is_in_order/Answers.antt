use Rattle.std.proofs.Common.{rules}
use Rattle.std.specs.Ordering.{is_lt}
use Rattle.std.proofs.lemmas.List.Sorted.{answers_always}
use Rattle.gov_ids.specs.Orders.{pool_cmp}
use Rattle.snapshots.specs.declared.frozen.FrozenPool.{FrozenPool}
use Rattle.tally.proofs.ById.{told_by_id}
use Rattle.tally.proofs.silent_pools.is_in_order.Goals as goal

pub returns : goal.returns
returns c =
    let answer = c.is_sorted_by.ensures.cases (λ (x y : FrozenPool). is_lt (pool_cmp x.pool y.pool)) (answers_always _ _ _ (λ f a r g called. search rules)) in
    told_by_id c.args.pools.now c.is_sorted_by.result answer
