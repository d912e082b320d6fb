-- The entries that changes of a map cover. (Own)
use Rattle.std.specs.Prelude.{List}
use Rattle.std.specs.declared.cmp.Ordering.{Ordering}
use Rattle.maps.specs.Maps.{entries_where, has_key}

-- the entries whose key is among the changed ones
abbrev pub covered_entries : {K X : Type 0} → (K → K → Ordering) → List (K × X) → List (K × X) → List (K × X)
covered_entries cmp changed es = entries_where (λ k v. has_key cmp changed k) es
