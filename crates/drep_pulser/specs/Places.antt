-- The index of a DRep in a list of sums in order. (Own)
use Rattle.std.specs.Prelude.{ℕ, ◌≡◌, ◌<◌, List, length, slice_index_or}
use Rattle.std.specs.declared.cmp.Ordering.TheVariants.{Equal}
use Rattle.gov_ids.specs.declared.Drep.{Drep}
use Rattle.gov_ids.specs.Orders.{drep_cmp}

-- the sum of the DRep is at the index
abbrev pub IsPlaceOf : List (Drep × ℕ) → Drep → ℕ → Type 0
IsPlaceOf sums d i = (i < length sums) × ((e : Drep × ℕ) → drep_cmp (slice_index_or sums i e).0 d ≡ Equal)
