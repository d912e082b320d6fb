-- A map with the entry of one key replaced or removed.
use Rattle.std.specs.Prelude.{List, Option, Some, None}
use Rattle.std.specs.declared.cmp.Ordering.{Ordering}
use Rattle.maps.specs.Maps.{with_value, without_key}

-- k has the value o; for none, k has no entry
abbrev pub with_option : {K X : Type 0} → (K → K → Ordering) → K → Option X → List (K × X) → List (K × X)
with_option cmp k None es = without_key cmp k es
with_option cmp k (Some v) es = with_value cmp k v es
