use Rattle.std.proofs.Common.{List, flat_map, ap}
use Rattle.claims.specs.Lines.{pool_lines}
use Rattle.report.proofs.Handed.{put_as}
use Rattle.snapshots.specs.declared.frozen.FrozenPool.{FrozenPool}
use Rattle.claims.proofs.parts.put_pools.Goals as goal

pub returns : goal.returns
returns g c = put_as (ap (λ (ps : List FrozenPool). flat_map (pool_lines c.args.a.now) ps) c.as_slice.ensures) c.put_items.ensures
