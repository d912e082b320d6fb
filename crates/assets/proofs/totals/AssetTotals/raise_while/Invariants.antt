use Rattle.std.proofs.Common.{◌≡◌, ◌+◌, take}
use Rattle.gov_ids.specs.declared.assets.AssetId.{AssetId}
use Rattle.assets.specs.Quantities.{quantity_of}
use Rattle.assets.specs.Totals.{AreTotals, total_at}
use Rattle.assets.proofs.totals.AssetTotals.raise_while.Given as goal

-- the entries so far are added
abbrev pub invariant-loop-asset : goal.invariant-loop-asset
invariant-loop-asset l = record {
  place : l.added ≡ l.asset-index;
  totals : (a : AssetId) → total_at l.self a ≡ total_at l.fn.self a + quantity_of (take l.asset-index l.entries) a;
  sound : AreTotals l.self;
}
