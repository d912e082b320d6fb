-- A value that replaces another at its key is that one, changed.
use Rattle.std.proofs.Common.{◌≡◌, List, [], ◌∷◌, cond, Some, None, refl, ap, sym}
use Rattle.std.specs.declared.cmp.Ordering.{Ordering}
use Rattle.std.specs.declared.cmp.Ordering.TheVariants.{Less, Equal, Greater}
use Rattle.std.specs.Ordering.{is_eq, match_ordering}
use Rattle.std.specs.Cmp.{IsTotalOrder}
use Rattle.std.specs.List.Sorted.{IsStrictlySortedBy}
use Rattle.std.specs.Map.{keys_of}
use Rattle.maps.proofs.Lookups.{none_below}
use Rattle.maps.proofs.Placed.{changed_at_absent}
use Rattle.maps.proofs.Ties.{all_above, all_tied}
use Rattle.maps.specs.Maps.{IsMap, value_at, with_value, changed_at}

pub with_value-changed_at : {K X : Type 0} {cmp : K → K → Ordering} (o : IsTotalOrder cmp) (k : K) (f : X → X) (x : X) (es : List (K × X))
    → IsMap cmp es → value_at cmp es k ≡ Some x → with_value cmp k (f x) es ≡ changed_at cmp k f es
unfolding IsStrictlySortedBy
with_value-changed_at o k f x [] h m = cc
with_value-changed_at {K} {X} {cmp} o k f x (e ∷ es) h m =
    elim (cmp k e.0) as (λ r. cmp k e.0 ≡ r → cond (is_eq r) (Some e.1) (value_at cmp es k) ≡ Some x
    → match_ordering r ((k, f x) ∷ e ∷ es) ((e.0, f x) ∷ es) (e ∷ with_value cmp k (f x) es) ≡ (e.0, cond (is_eq r) (f e.1) e.1) ∷ changed_at cmp k f es) [
      | Less ↦ λ t m. let none : value_at cmp es k ≡ None = none_below cmp k es (all_above o k e.0 (keys_of es) t h.0) in cc
      | Equal ↦ λ t m.
          let rest : changed_at cmp k f es ≡ es = changed_at_absent cmp k f es (none_below cmp k es (all_tied o k e.0 (keys_of es) t h.0)) in
          let value : x ≡ e.1 = cc in
          λ i. (e.0, f (value i)) ∷ sym rest i
      | Greater ↦ λ t m. ap (λ (l : List (K × X)). e ∷ l) (with_value-changed_at o k f x es h.1 m)
    ] refl m
