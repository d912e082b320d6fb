-- Places of keys in lists of entries.
use Rattle.std.specs.Prelude.{◌≡◌, ℕ, ◌<◌, List, Option, Some, None, length, slice_index_or}
use Rattle.std.specs.declared.cmp.Ordering.{Ordering}
use Rattle.maps.specs.Maps.{value_at}

-- the place of the entry with a key; none if there is no such entry
abbrev pub IsIndexOf : {K X : Type 0} → (K → K → Ordering) → List (K × X) → K → Option ℕ → Type 0
IsIndexOf cmp es k None = value_at cmp es k ≡ None
IsIndexOf {K} {X} cmp es k (Some i) = (i < length es) × ((d : K × X) → value_at cmp es k ≡ Some (slice_index_or es i d).1)
