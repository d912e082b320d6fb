-- Sums of what is taken and given of each asset, with some of one asset besides. (Own)
use Rattle.std.specs.Prelude.{ℕ, ◌+◌, List, unwrap_or}
use Rattle.gov_ids.specs.declared.assets.AssetId.{AssetId}
use Rattle.gov_ids.specs.Orders.{asset_cmp}
use Rattle.maps.specs.Maps.{value_at, with_value}

-- how much is taken and how much is given of an asset
abbrev pub sums_at : List (AssetId × (ℕ × ℕ)) → AssetId → ℕ × ℕ
sums_at sums a = unwrap_or (value_at asset_cmp sums a) (0, 0)

-- with so much of the asset taken and given besides
abbrev pub raised : AssetId → ℕ → ℕ → List (AssetId × (ℕ × ℕ)) → List (AssetId × (ℕ × ℕ))
raised a taken given sums = with_value asset_cmp a ((sums_at sums a).0 + taken, (sums_at sums a).1 + given) sums
