use Rattle.std.proofs.Common.{arith}
use Rattle.assets.proofs.Quantities.{quantity_at}
use Rattle.assets.proofs.totals.AssetTotals.lower_all.Goals as goal

pub lower-requires : goal.lower-requires
lower-requires c =
    let there = quantity_at c.args.entries.now c.loop-asset.asset-index c.loop-asset-item.result c.loop-asset-test.true c.loop-asset-item.is in
    let covered = c.loop-asset.invariant.enough c.loop-asset-item.result.0 in
    record { enough = omega (arith, there, covered) }
