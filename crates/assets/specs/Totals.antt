-- Totals of assets: those above 0, in order. (Own)
use Rattle.std.specs.Prelude.{ℕ, ◌≤◌, List, unwrap_or}
use Rattle.std.specs.List.{AllByRecursion}
use Rattle.gov_ids.specs.declared.assets.AssetId.{AssetId}
use Rattle.gov_ids.specs.Orders.{asset_cmp}
use Rattle.gov_ids.specs.of_maps.Maps.{IsMap, value_at}

-- the total of an asset; 0 if the list has none
abbrev pub total_at : List (AssetId × ℕ) → AssetId → ℕ
total_at totals a = unwrap_or (value_at asset_cmp totals a) 0

-- each asset is in the list once, in order, and its total is at least 1
abbrev pub AreTotals : List (AssetId × ℕ) → Type 0
AreTotals totals = IsMap asset_cmp totals × AllByRecursion (λ (e : AssetId × ℕ). 1 ≤ e.1) totals
