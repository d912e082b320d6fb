-- Maps with the same look-ups are equal, and sets with the same members.
use Rattle.std.proofs.Common.{◌≡◌, List, [], ◌∷◌, true, false, cond, ◌||◌, Some, None, map, refl, ap, sym, subst, ◌∙◌}
use Rattle.std.specs.declared.cmp.Ordering.{Ordering}
use Rattle.std.specs.declared.cmp.Ordering.TheVariants.{Less, Equal, Greater}
use Rattle.std.specs.Ordering.{is_eq, eq_by_cmp, ordering_reverse}
use Rattle.std.specs.Cmp.{IsTotalOrder}
use Rattle.std.specs.FinMap.{IsAntisymmetric}
use Rattle.std.specs.List.{AllByRecursion}
use Rattle.std.specs.List.Sorted.{IsStrictlySortedBy}
use Rattle.std.specs.Map.{keys_of}
use Rattle.std.proofs.lemmas.Cmp.{tied_itself}
use Rattle.maps.proofs.Lookups.{none_below}
use Rattle.maps.proofs.Ties.{is_equal, all_above, all_tied}
use Rattle.maps.specs.Maps.{IsMap, IsSet, value_at, has_member}

module _ {K X : Type 0} {cmp : K → K → Ordering} (o : IsTotalOrder cmp) where
  pub value_at_first : (e : K × X) (es : List (K × X)) → value_at cmp (e ∷ es) e.0 ≡ Some e.1
  value_at_first e es = ap (λ r. cond (is_eq r) (Some e.1) (value_at cmp es e.0)) (tied_itself o e.0)

  -- a map whose first key is above e's has nothing there
  not_both : {A : Type 0} (e f : K × X) (es fs : List (K × X)) → cmp e.0 f.0 ≡ Less → AllByRecursion (λ q. cmp f.0 q ≡ Less) (keys_of fs) → value_at cmp (e ∷ es) e.0 ≡ value_at cmp (f ∷ fs) e.0 → A
  not_both e f es fs p h is =
      let here : value_at cmp (e ∷ es) e.0 ≡ Some e.1 = value_at_first e es in
      let there : value_at cmp (f ∷ fs) e.0 ≡ None = none_below cmp e.0 (f ∷ fs) (p, all_above o e.0 f.0 (keys_of fs) p h) in
      cc

  -- behind first entries with the same key, below all others
  behind : (k : K) (v w : X) (es fs : List (K × X)) (q : K) → AllByRecursion (λ x. cmp k x ≡ Less) (keys_of es) → AllByRecursion (λ x. cmp k x ≡ Less) (keys_of fs)
      → value_at cmp ((k, v) ∷ es) q ≡ value_at cmp ((k, w) ∷ fs) q → value_at cmp es q ≡ value_at cmp fs q
  behind k v w es fs q g h is =
      elim (eq_by_cmp cmp q k) as (λ b. eq_by_cmp cmp q k ≡ b → cond b (Some v) (value_at cmp es q) ≡ cond b (Some w) (value_at cmp fs q) → value_at cmp es q ≡ value_at cmp fs q) [
        | true ↦ λ t is. none_below cmp q es (all_tied o q k (keys_of es) (is_equal _ t) g) ∙ sym (none_below cmp q fs (all_tied o q k (keys_of fs) (is_equal _ t) h))
        | false ↦ λ t is. is
      ] refl is

  module _ (exact : IsAntisymmetric cmp) where
    pub map_from_value_at : (es fs : List (K × X)) → IsMap cmp es → IsMap cmp fs → ((q : K) → value_at cmp es q ≡ value_at cmp fs q) → es ≡ fs
    unfolding IsStrictlySortedBy
    map_from_value_at [] [] g h is = refl
    map_from_value_at [] (f ∷ fs) g h is = let here = value_at_first f fs in let there = is f.0 in cc
    map_from_value_at (e ∷ es) [] g h is = let here = value_at_first e es in let there = is e.0 in cc
    map_from_value_at (e ∷ es) (f ∷ fs) g h is =
        elim (cmp e.0 f.0) as (λ r. cmp e.0 f.0 ≡ r → e ∷ es ≡ f ∷ fs) [
          | Less ↦ λ p. not_both e f es fs p h.0 (is e.0)
          | Greater ↦ λ p. not_both f e fs es (o.antisymm f.0 e.0 ∙ ap ordering_reverse p) g.0 (sym (is f.0))
          | Equal ↦ λ p.
              let keys : e.0 ≡ f.0 = exact e.0 f.0 p in
              let here : value_at cmp (e ∷ es) e.0 ≡ Some e.1 = value_at_first e es in
              let there : value_at cmp (f ∷ fs) e.0 ≡ Some f.1 = ap (λ r. cond (is_eq r) (Some f.1) (value_at cmp fs e.0)) p in
              let at : value_at cmp (e ∷ es) e.0 ≡ value_at cmp (f ∷ fs) e.0 = is e.0 in
              let values : e.1 ≡ f.1 = cc in
              let rest : es ≡ fs = map_from_value_at es fs g.1 h.1 (λ q. behind e.0 e.1 f.1 es fs q g.0 (all_tied o e.0 f.0 (keys_of fs) p h.0) (is q ∙ ap (λ k. value_at cmp ((k, f.1) ∷ fs) q) (sym keys))) in
              λ i. (keys i, values i) ∷ rest i
        ] refl

-- a set as a map to nothing
abbrev as_map : {K : Type 0} → List K → List (K × Unit {0})
as_map ks = map (λ k. (k, tt)) ks

keys_of-as_map : {K : Type 0} (ks : List K) → keys_of (as_map ks) ≡ ks
keys_of-as_map [] = refl
keys_of-as_map {K} (k ∷ ks) = ap (λ (l : List K). k ∷ l) (keys_of-as_map ks)

value_at-as_map : {K : Type 0} (cmp : K → K → Ordering) (ks : List K) (q : K) → value_at cmp (as_map ks) q ≡ cond (has_member cmp ks q) (Some tt) None
value_at-as_map cmp [] q = refl
value_at-as_map cmp (k ∷ ks) q =
    elim (eq_by_cmp cmp q k) as (λ b. cond b (Some tt) (value_at cmp (as_map ks) q) ≡ cond (b || has_member cmp ks q) (Some tt) None) [ true ↦ refl | false ↦ value_at-as_map cmp ks q ]

pub set_from_has_member : {K : Type 0} {cmp : K → K → Ordering} → IsTotalOrder cmp → IsAntisymmetric cmp → (ks ls : List K) → IsSet cmp ks → IsSet cmp ls → ((q : K) → has_member cmp ks q ≡ has_member cmp ls q) → ks ≡ ls
set_from_has_member {K} {cmp} o exact ks ls g h is =
    let maps : as_map ks ≡ as_map ls =
    map_from_value_at o exact (as_map ks) (as_map ls) (subst (λ (l : List K). IsSet cmp l) (sym (keys_of-as_map ks)) g) (subst (λ (l : List K). IsSet cmp l) (sym (keys_of-as_map ls)) h)
    (λ q. value_at-as_map cmp ks q ∙ ap (λ b. cond b (Some tt) None) (is q) ∙ sym (value_at-as_map cmp ls q)) in
    sym (keys_of-as_map ks) ∙ ap (λ (es : List (K × Unit {0})). keys_of es) maps ∙ keys_of-as_map ls
