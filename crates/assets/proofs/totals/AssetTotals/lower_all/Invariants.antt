use Rattle.std.proofs.Common.{◌≡◌, ◌≤◌, ◌-◌, drop}
use Rattle.gov_ids.specs.declared.assets.AssetId.{AssetId}
use Rattle.assets.specs.Quantities.{quantity_of}
use Rattle.assets.specs.Totals.{AreTotals, total_at}
use Rattle.assets.proofs.totals.AssetTotals.lower_all.Given as goal

-- the entries so far are taken away, and there is enough for those that are left
abbrev pub invariant-loop-asset : goal.invariant-loop-asset
invariant-loop-asset l = record {
  enough : (a : AssetId) → quantity_of (drop l.asset-index l.entries) a ≤ total_at l.self a;
  rest : (a : AssetId) → total_at l.self a - quantity_of (drop l.asset-index l.entries) a ≡ total_at l.fn.self a - quantity_of l.entries a;
  sound : AreTotals l.self;
}
