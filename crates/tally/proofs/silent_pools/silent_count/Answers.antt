use Rattle.std.proofs.Common.{List, ap, sym, map, ◌∙◌}
use Rattle.std.proofs.lemmas.List.{drop_all}
use Rattle.snapshots.specs.declared.frozen.FrozenPool.{FrozenPool}
use Rattle.tally.specs.Adding.{with_sides}
use Rattle.tally.proofs.SilentPools.{pools_silent, silent_side}
use Rattle.tally.proofs.silent_pools.silent_count.Goals as goal

pub returns : goal.returns
returns c =
    let a = c.args.a.now in
    let none = drop_all c.loop-p.p-index c.as_slice-p-items.result.now c.loop-p-test.false in
    sym (ap (λ (ps : List FrozenPool). with_sides c.loop-p.count (map (silent_side a) ps)) none)
    ∙ c.loop-p.invariant.rest
    ∙ ap (λ (ps : List FrozenPool). with_sides (0, 0) (map (silent_side a) ps)) c.as_slice-p-items.ensures
    ∙ pools_silent a c.args.f.now.pools
