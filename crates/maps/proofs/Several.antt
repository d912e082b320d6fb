-- Several entries put into a map, or taken out of it.
use Rattle.std.proofs.Common.{◌≡◌, ℕ, ◌+◌, List, [], ◌∷◌, Bool, true, false, cond, ◌||◌, Option, Some, None, is_some, sum_by, refl, ap, sym, ◌∙◌, arith}
use Rattle.std.specs.declared.cmp.Ordering.{Ordering}
use Rattle.std.specs.Ordering.{eq_by_cmp}
use Rattle.std.specs.Cmp.{IsTotalOrder}
use Rattle.std.specs.FinMap.{IsAntisymmetric}
use Rattle.std.specs.List.{AllByRecursion, IsDistinct}
use Rattle.std.specs.Map.{keys_of, values_of, update_all}
use Rattle.std.specs.Option.{option_or}
use Rattle.std.proofs.lemmas.Cmp.{eq_by_cmp_equiv}
use Rattle.std.proofs.lemmas.List.Sums.{sum_by-cons}
use Rattle.std.proofs.lemmas.Map.Entries.{sum_by-remove_entry}
use Rattle.std.proofs.lemmas.Map.Made.{is_some-update_all, update_all_distinct}
use Rattle.maps.proofs.Kept.{IsMap-without_key, IsMap-without_keys}
use Rattle.maps.proofs.Lookups.{value_at-with_value, value_at-without_key, value_at-without_keys}
use Rattle.maps.proofs.Same.{map_from_value_at}
use Rattle.maps.proofs.Sums.{sum_values-with_value_absent}
use Rattle.maps.specs.Maps.{IsMap, value_at, has_key, with_value, without_key, sum_values, with_values, without_keys, has_member}
use Rattle.maps.specs.Words.{amount}

module _ {K X : Type 0} {cmp : K → K → Ordering} (o : IsTotalOrder cmp) where
  pub value_at-with_values : (new es : List (K × X)) (q : K) → value_at cmp (with_values cmp new es) q ≡ update_all (eq_by_cmp cmp) (value_at cmp es) new q
  value_at-with_values [] es q = refl
  value_at-with_values (e ∷ new) es q =
      value_at-with_values new (with_value cmp e.0 e.1 es) q
      ∙ ap (λ (f : K → Option X). update_all (eq_by_cmp cmp) f new q) (λ i x. value_at-with_value o e.0 e.1 es x i)

  -- where no key is put in twice
  pub value_at-with_values_distinct : (new es : List (K × X)) (q : K) → IsDistinct (eq_by_cmp cmp) (keys_of new) → value_at cmp (with_values cmp new es) q ≡ option_or (value_at cmp new q) (value_at cmp es q)
  value_at-with_values_distinct new es q d =
      value_at-with_values new es q ∙ update_all_distinct (eq_by_cmp_equiv o) (eq_by_cmp cmp) (λ x y. refl) (value_at cmp es) new q d

  pub has_key-with_values : (new es : List (K × X)) (q : K) → has_key cmp (with_values cmp new es) q ≡ (has_key cmp es q || has_member cmp (keys_of new) q)
  has_key-with_values new es q = ap is_some (value_at-with_values new es q) ∙ is_some-update_all (eq_by_cmp_equiv o) q (value_at cmp es) new

  -- a key that is not put in keeps its value
  pub value_at-with_values_other : (new es : List (K × X)) (q : K) → has_member cmp (keys_of new) q ≡ false → value_at cmp (with_values cmp new es) q ≡ value_at cmp es q
  value_at-with_values_other [] es q h = refl
  value_at-with_values_other (e ∷ new) es q h =
      elim (eq_by_cmp cmp q e.0) as (λ b. eq_by_cmp cmp q e.0 ≡ b → (b || has_member cmp (keys_of new) q) ≡ false → value_at cmp (with_values cmp new (with_value cmp e.0 e.1 es)) q ≡ value_at cmp es q) [
        | true ↦ λ t h. cc
        | false ↦ λ t h. value_at-with_values_other new (with_value cmp e.0 e.1 es) q h ∙ value_at-with_value o e.0 e.1 es q
            ∙ ap (λ b. cond b (Some e.1) (value_at cmp es q)) ((eq_by_cmp_equiv o).symm e.0 q ∙ t)
      ] refl h

  -- keys with no value have none after one that they do not tie with is put in
  absent_still : (k : K) (v : X) (es : List (K × X)) (ks : List K) → AllByRecursion (λ q. eq_by_cmp cmp k q ≡ false) ks → AllByRecursion (λ q. value_at cmp es q ≡ None) ks → AllByRecursion (λ q. value_at cmp (with_value cmp k v es) q ≡ None) ks
  absent_still k v es [] a m = tt
  absent_still k v es (q ∷ ks) a m = (value_at-with_value o k v es q ∙ ap (λ b. cond b (Some v) (value_at cmp es q)) a.0 ∙ m.0, absent_still k v es ks a.1 m.1)

  pub sum_values-with_values : (f : X → ℕ) (new es : List (K × X)) → IsDistinct (eq_by_cmp cmp) (keys_of new) → AllByRecursion (λ q. value_at cmp es q ≡ None) (keys_of new) → sum_values f (with_values cmp new es) ≡ sum_values f es + sum_values f new
  unfolding IsDistinct
  sum_values-with_values f [] es d m = omega arith
  sum_values-with_values f (e ∷ new) es d m =
      omega (
        arith,
        sum_values-with_values f new (with_value cmp e.0 e.1 es) d.1 (absent_still e.0 e.1 es (keys_of new) d.0 m.1),
        sum_values-with_value_absent f cmp e.0 e.1 es m.0,
        sum_by-cons f e.1 (values_of new),
      )

pub without_keys_none : {K X : Type 0} (cmp : K → K → Ordering) (es : List (K × X)) → without_keys cmp [] es ≡ es
without_keys_none cmp [] = refl
without_keys_none {K} {X} cmp (e ∷ es) = ap (λ (l : List (K × X)). e ∷ l) (without_keys_none cmp es)

-- one test and then another
twice : {A : Type 0} (b c d : Bool) (x : Option A) → b ≡ d → cond (b || c) None x ≡ cond c None (cond d None x)
twice true true true x e = refl
twice true false true x e = refl
twice true c false x e = cc
twice false c true x e = cc
twice false c false x e = refl

module _ {K X : Type 0} {cmp : K → K → Ordering} (o : IsTotalOrder cmp) (exact : IsAntisymmetric cmp) where
  -- one key after another
  pub without_keys_more : (k : K) (ks : List K) (es : List (K × X)) → IsMap cmp es → without_keys cmp (k ∷ ks) es ≡ without_keys cmp ks (without_key cmp k es)
  without_keys_more k ks es h =
      map_from_value_at o exact _ _ (IsMap-without_keys cmp (k ∷ ks) es h) (IsMap-without_keys cmp ks (without_key cmp k es) (IsMap-without_key cmp k es h))
      (λ q. value_at-without_keys o (k ∷ ks) es q
      ∙ twice _ _ _ _ ((eq_by_cmp_equiv o).symm q k)
      ∙ ap (λ (x : Option X). cond (has_member cmp ks q) None x) (sym (value_at-without_key o k es q h))
      ∙ sym (value_at-without_keys o ks (without_key cmp k es) q))

  pub without_keys_one : (k : K) (es : List (K × X)) → IsMap cmp es → without_keys cmp (k ∷ []) es ≡ without_key cmp k es
  without_keys_one k es h = without_keys_more k [] es h ∙ without_keys_none cmp (without_key cmp k es)

  -- keys that k does not tie with hold the same without it
  amounts_still : (f : X → ℕ) (k : K) (es : List (K × X)) (ks : List K) → IsMap cmp es → AllByRecursion (λ q. eq_by_cmp cmp k q ≡ false) ks
      → sum_by (λ q. amount f (value_at cmp (without_key cmp k es) q)) ks ≡ sum_by (λ q. amount f (value_at cmp es q)) ks
  amounts_still f k es [] h a = refl
  amounts_still f k es (q ∷ ks) h a =
      let here : amount f (value_at cmp (without_key cmp k es) q) ≡ amount f (value_at cmp es q) =
      ap (λ (x : Option X). amount f x) (value_at-without_key o k es q h ∙ ap (λ b. cond b None (value_at cmp es q)) a.0) in
      omega (
        arith,
        here,
        amounts_still f k es ks h a.1,
        sum_by-cons (λ q. amount f (value_at cmp (without_key cmp k es) q)) q ks,
        sum_by-cons (λ q. amount f (value_at cmp es q)) q ks,
      )

  -- what is left and what the keys held are all
  pub sum_values-without_keys : (f : X → ℕ) (ks : List K) (es : List (K × X)) → IsMap cmp es → IsDistinct (eq_by_cmp cmp) ks → sum_values f (without_keys cmp ks es) + sum_by (λ q. amount f (value_at cmp es q)) ks ≡ sum_values f es
  unfolding IsDistinct
  sum_values-without_keys f [] es h d = omega (arith, ap (λ (l : List (K × X)). sum_values f l) (without_keys_none cmp es))
  sum_values-without_keys f (k ∷ ks) es h d =
      omega (
        arith,
        ap (λ (l : List (K × X)). sum_values f l) (without_keys_more k ks es h),
        sum_values-without_keys f ks (without_key cmp k es) (IsMap-without_key cmp k es h) d.1,
        amounts_still f k es ks h d.0,
        sum_by-remove_entry f (eq_by_cmp cmp k) es,
        sum_by-cons (λ q. amount f (value_at cmp es q)) k ks,
      )
