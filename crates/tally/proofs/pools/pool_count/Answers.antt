use Rattle.std.proofs.Common.{List, ap, sym, ◌∙◌}
use Rattle.std.proofs.lemmas.List.{drop_all}
use Rattle.snapshots.specs.declared.frozen.FrozenPool.{FrozenPool}
use Rattle.tally.specs.Adding.{with_sides}
use Rattle.tally.proofs.PoolSides.{sides_of_pools, pools_counted}
use Rattle.tally.proofs.pools.pool_count.Goals as goal

pub returns : goal.returns
returns c = λ s e.
    let a = c.args.a.now in
    let items = c.as_slice-p-items.result.now in
    let none = drop_all c.loop-p.p-index items c.loop-p-test.false in
    sym (ap (λ (ps : List FrozenPool). with_sides c.loop-p.count (sides_of_pools a ps)) none)
    ∙ c.loop-p.invariant.rest
    ∙ ap (λ (ps : List FrozenPool). with_sides (0, 0) (sides_of_pools a ps)) c.as_slice-p-items.ensures
    ∙ pools_counted c.args.f.now a s e
