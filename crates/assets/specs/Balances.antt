-- What is taken and given of each asset. (The preservation of value of the formal specification)
use Rattle.std.specs.Prelude.{ℕ, ◌==◌, Bool, not, List, ◌++◌, Option, find, map}
use Rattle.gov_ids.specs.declared.assets.AssetId.{AssetId}
use Rattle.gov_ids.specs.of_maps.Words.{with_places}
use Rattle.assets.specs.Quantities.{named_in, quantity_of}

-- each asset that is taken or given, in order, with how much is taken and how much is given of it
abbrev pub balance_of : List (AssetId × ℕ) → List (AssetId × ℕ) → List (AssetId × (ℕ × ℕ))
balance_of taken given = map (λ a. (a, (quantity_of taken a, quantity_of given a))) (named_in (taken ++ given))

-- whether as much is given as is taken of an asset
abbrev pub is_even : AssetId × (ℕ × ℕ) → Bool
is_even e = e.1.0 == e.1.1

-- the first asset of which more or less is given than taken, with its place and both sums
abbrev pub first_uneven : List (AssetId × (ℕ × ℕ)) → Option (ℕ × (AssetId × (ℕ × ℕ)))
first_uneven balance = find (λ p. not (is_even p.1)) (with_places balance)
