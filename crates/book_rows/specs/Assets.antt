-- Assets that an output may hold. (Own)
use Rattle.std.specs.Prelude.{ℕ, Bool, ◌&&◌, List}
use Rattle.std.specs.List.{list_all}
use Rattle.gov_ids.specs.declared.assets.AssetId.{AssetId}
use Rattle.gov_ids.specs.Orders.{asset_cmp}
use Rattle.assets.specs.Quantities.{is_held}
use Rattle.text_forms.specs.Ids.{is_map}

-- they are in order, each once, and at least 1 of each
abbrev pub are_assets : List (AssetId × ℕ) → Bool
are_assets held = is_map asset_cmp held && list_all (λ (e : AssetId × ℕ). is_held e.1) held
