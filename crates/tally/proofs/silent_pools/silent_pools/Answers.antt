use Rattle.std.proofs.Common.{List, refl, subst}
use Rattle.gov_ids.specs.Orders.{pool_cmp}
use Rattle.maps.specs.Maps.{IsMap}
use Rattle.snapshots.specs.declared.frozen.FrozenPool.{FrozenPool}
use Rattle.tally.specs.Silent.{by_id}
use Rattle.tally.proofs.SilentPools.{on_each}
use Rattle.tally.proofs.silent_pools.silent_pools.Goals as goal

pub returns-clause-silent : goal.returns-clause-silent
returns-clause-silent c = record {
  in_order = subst (λ (ps : List FrozenPool). IsMap pool_cmp (by_id ps)) c.as_slice.ensures (c.if-not-is_in_order.ensures.0 refl);
  count = on_each c.args.f.now (record { hard_fork = c.silent_count.result; motion = c.silent_count-2.result; other = c.silent_count-3.result })
      c.silent_count.ensures c.silent_count-2.ensures c.silent_count-3.ensures;
}
