-- The value at one key, written in its place: one that is changed, or another.
use Rattle.std.proofs.Common.{◌≡◌, List, [], ◌∷◌, true, false, cond, Some, None, refl, ap, sym}
use Rattle.std.specs.declared.cmp.Ordering.{Ordering}
use Rattle.std.specs.declared.cmp.Ordering.TheVariants.{Less, Equal, Greater}
use Rattle.std.specs.Ordering.{eq_by_cmp, is_eq, match_ordering}
use Rattle.std.specs.Cmp.{IsTotalOrder}
use Rattle.std.specs.List.Sorted.{IsStrictlySortedBy}
use Rattle.std.proofs.lemmas.Cmp.{eq_by_cmp_equiv}
use Rattle.std.specs.BTreeMap.{is_at}
use Rattle.std.specs.Map.{keys_of, set_value}
use Rattle.maps.proofs.Lookups.{none_below}
use Rattle.maps.proofs.Ties.{is_equal, all_tied, all_above}
use Rattle.maps.specs.Maps.{IsMap, value_at, changed_at, with_value}

-- a key with no value changes nothing
pub changed_at_absent : {K X : Type 0} (cmp : K → K → Ordering) (k : K) (f : X → X) (es : List (K × X)) → value_at cmp es k ≡ None → changed_at cmp k f es ≡ es
changed_at_absent cmp k f [] m = refl
changed_at_absent {K} {X} cmp k f (e ∷ es) m =
    elim (eq_by_cmp cmp k e.0) as (λ b. cond b (Some e.1) (value_at cmp es k) ≡ None → (e.0, cond b (f e.1) e.1) ∷ changed_at cmp k f es ≡ e ∷ es) [
      | true ↦ λ m. cc
      | false ↦ λ m. ap (λ (l : List (K × X)). e ∷ l) (changed_at_absent cmp k f es m)
    ] m

-- a value that is written where one stood is that one, changed
pub set_value-changed_at : {K X : Type 0} {cmp : K → K → Ordering} (o : IsTotalOrder cmp) (k : K) (f : X → X) (x : X) (es : List (K × X)) → IsMap cmp es → value_at cmp es k ≡ Some x → set_value (is_at (cmp k)) es (f x) ≡ changed_at cmp k f es
unfolding IsStrictlySortedBy
set_value-changed_at o k f x [] h m = cc
set_value-changed_at {K} {X} {cmp} o k f x (e ∷ es) h m =
    elim (eq_by_cmp cmp k e.0) as (λ b. eq_by_cmp cmp k e.0 ≡ b → cond b (Some e.1) (value_at cmp es k) ≡ Some x → cond b ((e.0, f x) ∷ es) (e ∷ set_value (is_at (cmp k)) es (f x)) ≡ (e.0, cond b (f e.1) e.1) ∷ changed_at cmp k f es) [
      | true ↦ λ t m.
          let rest : changed_at cmp k f es ≡ es = changed_at_absent cmp k f es (none_below cmp k es (all_tied o k e.0 (keys_of es) (is_equal _ t) h.0)) in
          let value : x ≡ e.1 = cc in
          λ i. (e.0, f (value i)) ∷ sym rest i
      | false ↦ λ t m. ap (λ (l : List (K × X)). e ∷ l) (set_value-changed_at o k f x es h.1 m)
    ] refl m

-- one that is written where another stood
pub set_value-with_value : {K X : Type 0} {cmp : K → K → Ordering} (o : IsTotalOrder cmp) (k : K) (v x : X) (es : List (K × X)) → IsMap cmp es → value_at cmp es k ≡ Some x → set_value (is_at (cmp k)) es v ≡ with_value cmp k v es
unfolding IsStrictlySortedBy
set_value-with_value o k v x [] h m = cc
set_value-with_value {K} {X} {cmp} o k v x (e ∷ es) h m =
    elim (cmp k e.0) as (λ r. cmp k e.0 ≡ r → cond (is_eq r) (Some e.1) (value_at cmp es k) ≡ Some x → cond (is_eq r) ((e.0, v) ∷ es) (e ∷ set_value (is_at (cmp k)) es v) ≡ match_ordering r ((k, v) ∷ e ∷ es) ((e.0, v) ∷ es) (e ∷ with_value cmp k v es)) [
      | Less ↦ λ r m. let none : value_at cmp es k ≡ None = none_below cmp k es (all_above o k e.0 (keys_of es) r h.0) in cc
      | Equal ↦ λ r m. refl
      | Greater ↦ λ r m. ap (λ (l : List (K × X)). e ∷ l) (set_value-with_value o k v x es h.1 m)
    ] refl m

-- keys that tie have the same value
pub value_at_tied : {K X : Type 0} {cmp : K → K → Ordering} (o : IsTotalOrder cmp) (k q : K) (es : List (K × X)) → eq_by_cmp cmp k q ≡ true → value_at cmp es q ≡ value_at cmp es k
value_at_tied o k q [] t = refl
value_at_tied {K} {X} {cmp} o k q (e ∷ es) t =
    let here : eq_by_cmp cmp q e.0 ≡ eq_by_cmp cmp k e.0 = sym ((eq_by_cmp_equiv o).congr k q e.0 t) in
    λ i. cond (here i) (Some e.1) (value_at_tied o k q es t i)
