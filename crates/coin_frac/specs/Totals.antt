-- Amounts by key, as the list of entries in the order of keys.
use Rattle.std.specs.Prelude.{ℕ, List}
use Rattle.maps.specs.Maps.{sum_values}

-- the sum of the amounts
abbrev pub total_of : {K : Type 0} → List (K × ℕ) → ℕ
total_of es = sum_values (λ v. v) es
