-- What unspent outputs hold. (The preservation of value of the formal specification)
use Rattle.std.specs.Prelude.{ℕ, List, filter, flat_map, map, nat_lt}
use Rattle.std.specs.Map.{values_of}
use Rattle.assets.specs.Quantities.{named_in, quantity_of}
use Rattle.gov_ids.specs.of_maps.Maps.{sum_values}
use Rattle.gov_ids.specs.declared.assets.AssetId.{AssetId}
use Rattle.gov_ids.specs.declared.OutRef.{OutRef}
use Rattle.book_records.specs.declared.Output.{Output}

-- the lovelace of outputs
abbrev pub lovelace_in : List (OutRef × Output) → ℕ
lovelace_in outputs = sum_values (λ (o : Output). o.lovelace) outputs

-- what outputs hold of an asset
abbrev pub assets_in : List (OutRef × Output) → AssetId → ℕ
assets_in outputs a = sum_values (λ (o : Output). quantity_of o.assets a) outputs

-- the assets that outputs name, in order, each once
abbrev pub assets_named : List (OutRef × Output) → List AssetId
assets_named outputs = named_in (flat_map (λ (o : Output). o.assets) (values_of outputs))

-- each asset that outputs hold, in order, with how much they hold of it
abbrev pub asset_totals : List (OutRef × Output) → List (AssetId × ℕ)
asset_totals outputs = filter (λ (t : AssetId × ℕ). nat_lt 0 t.1) (map (λ a. (a, assets_in outputs a)) (assets_named outputs))
