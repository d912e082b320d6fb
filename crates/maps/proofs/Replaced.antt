-- A map with the entry of one key replaced or removed is a map, and what it has at each key.
use Rattle.std.proofs.Common.{◌≡◌, List, cond, Option, Some, None}
use Rattle.std.specs.declared.cmp.Ordering.{Ordering}
use Rattle.std.specs.Ordering.{eq_by_cmp}
use Rattle.std.specs.Cmp.{IsTotalOrder}
use Rattle.maps.proofs.Kept.{IsMap-with_value, IsMap-without_key}
use Rattle.maps.proofs.Lookups.{value_at-with_value, value_at-without_key}
use Rattle.maps.specs.Maps.{IsMap, value_at}
use Rattle.maps.specs.Replaced.{with_option}

module _ {K X : Type 0} {cmp : K → K → Ordering} (o : IsTotalOrder cmp) where
  pub value_at-with_option : (k : K) (r : Option X) (es : List (K × X)) (q : K) → IsMap cmp es → value_at cmp (with_option cmp k r es) q ≡ cond (eq_by_cmp cmp k q) r (value_at cmp es q)
  value_at-with_option k None es q h = value_at-without_key o k es q h
  value_at-with_option k (Some v) es q h = value_at-with_value o k v es q

  pub IsMap-with_option : (k : K) (r : Option X) (es : List (K × X)) → IsMap cmp es → IsMap cmp (with_option cmp k r es)
  IsMap-with_option k None es h = IsMap-without_key cmp k es h
  IsMap-with_option k (Some v) es h = IsMap-with_value o k v es h
