-- The part of what is taken that must be compared with what is given. (Own)
use Rattle.std.specs.Prelude.{ℕ, ◌≡◌, ◌+◌, true, List, [], ◌∷◌, Option, Some, None, flat_map, take}
use Rattle.std.specs.List.{AllByRecursion, list_all}
use Rattle.gov_ids.specs.declared.assets.AssetId.{AssetId}
use Rattle.gov_ids.specs.Orders.{asset_cmp}
use Rattle.maps.specs.Maps.{IsMap}
use Rattle.assets.specs.Balances.{balance_of}
use Rattle.assets.specs.Quantities.{is_held}

-- the first entries of a list, one more than n
abbrev pub front : {A : Type 0} → ℕ → List A → List A
front n es = take (n + 1) es

-- a list as an output holds it: each asset once, in order, with a quantity that may be held
abbrev pub IsSound : List (AssetId × ℕ) → Type 0
IsSound es = IsMap asset_cmp es × (list_all (λ (e : AssetId × ℕ). is_held e.1) es ≡ true)

module _ {R : Type 0} (f : R → List (AssetId × ℕ)) where
  -- the list of each is sound
  abbrev pub AreSound : List R → Type 0
  AreSound refs = AllByRecursion (λ r. IsSound (f r)) refs

  -- the fronts of the lists of all
  abbrev pub fronts : ℕ → List R → List (AssetId × ℕ)
  fronts n refs = flat_map (λ r. front n (f r)) refs

-- the asset of the first entry of a balance, with how much of it is taken
abbrev pub lowest_in : List (AssetId × (ℕ × ℕ)) → Option (AssetId × ℕ)
lowest_in [] = None
lowest_in (e ∷ balance) = Some (e.0, e.1.0)

-- the lowest asset of some entries, with how much they have of it
abbrev pub lowest_of : List (AssetId × ℕ) → Option (AssetId × ℕ)
lowest_of entries = lowest_in (balance_of entries [])
