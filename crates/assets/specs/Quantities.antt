-- Assets with their quantities, as plain lists.
-- (Value of the formal specification, without its lovelace)
use Rattle.std.specs.Prelude.{ℕ, suc, ◌^◌, Bool, ◌&&◌, ℤ, pos, negsuc, List, filter, map, nat_lt, sum_by}
use Rattle.std.specs.Map.{keys_of}
use Rattle.gov_ids.specs.declared.assets.AssetId.{AssetId}
use Rattle.gov_ids.specs.Orders.{asset_cmp}
use Rattle.gov_ids.specs.Same.{same_asset}
use Rattle.gov_ids.specs.of_maps.Maps.{in_order}

-- what an output may hold of an asset: at least 1, in 64 bits (own)
abbrev pub is_held : ℕ → Bool
is_held n = nat_lt 0 n && nat_lt n (2 ^ 64)

-- what a transaction may mint or burn of one: not 0, in 64 bits with the sign (own)
abbrev pub is_moved : ℤ → Bool
is_moved (pos n) = nat_lt 0 n && nat_lt n (2 ^ 63)
is_moved (negsuc n) = nat_lt n (2 ^ 63)

-- what a list has of an asset
abbrev pub quantity_of : List (AssetId × ℕ) → AssetId → ℕ
quantity_of entries a = sum_by (λ (e : AssetId × ℕ). e.1) (filter (λ (e : AssetId × ℕ). same_asset e.0 a) entries)

-- the assets that a list names, in order, each once
abbrev pub named_in : List (AssetId × ℕ) → List AssetId
named_in entries = in_order asset_cmp (keys_of entries)

-- how much is minted; 0 if some is burned
abbrev pub minted_of : ℤ → ℕ
minted_of (pos n) = n
minted_of (negsuc n) = 0

-- how much is burned; 0 if some is minted
abbrev pub burned_of : ℤ → ℕ
burned_of (pos n) = 0
burned_of (negsuc n) = suc n

-- each asset with how much of it is minted
abbrev pub all_minted : List (AssetId × ℤ) → List (AssetId × ℕ)
all_minted mint = map (λ (e : AssetId × ℤ). (e.0, minted_of e.1)) mint

-- each asset with how much of it is burned
abbrev pub all_burned : List (AssetId × ℤ) → List (AssetId × ℕ)
all_burned mint = map (λ (e : AssetId × ℤ). (e.0, burned_of e.1)) mint
