-- A map stays in order whatever changes.
use Rattle.std.proofs.Common.{◌≡◌, List, [], ◌∷◌, Bool, true, false, cond, filter, map, not, refl, ap, sym, subst}
use Rattle.std.specs.declared.cmp.Ordering.{Ordering}
use Rattle.std.specs.declared.cmp.Ordering.TheVariants.{Less, Equal, Greater}
use Rattle.std.specs.Ordering.{eq_by_cmp, match_ordering}
use Rattle.std.specs.Cmp.{IsTotalOrder}
use Rattle.std.specs.List.{list_any, AllByRecursion}
use Rattle.std.specs.List.Sorted.{IsStrictlySortedBy}
use Rattle.std.specs.Map.{keys_of}
use Rattle.maps.proofs.Sets.{IsSet-with_key, IsSet-without_member}
use Rattle.maps.specs.Maps.{IsMap, IsSet, with_value, without_key, each_value, changed_where, entries_where, with_values, without_keys, with_key, without_member}

pub keys_of-with_value : {K X : Type 0} (cmp : K → K → Ordering) (k : K) (v : X) (es : List (K × X)) → keys_of (with_value cmp k v es) ≡ with_key cmp k (keys_of es)
keys_of-with_value cmp k v [] = refl
keys_of-with_value {K} {X} cmp k v (e ∷ es) =
    elim (cmp k e.0) as (λ r. keys_of (match_ordering r ((k, v) ∷ e ∷ es) ((e.0, v) ∷ es) (e ∷ with_value cmp k v es)) ≡ match_ordering r (k ∷ e.0 ∷ keys_of es) (e.0 ∷ keys_of es) (e.0 ∷ with_key cmp k (keys_of es))) [
      | Less ↦ refl
      | Equal ↦ refl
      | Greater ↦ ap (λ (l : List K). e.0 ∷ l) (keys_of-with_value cmp k v es)
    ]

pub keys_of-without_key : {K X : Type 0} (cmp : K → K → Ordering) (k : K) (es : List (K × X)) → keys_of (without_key cmp k es) ≡ without_member cmp k (keys_of es)
keys_of-without_key cmp k [] = refl
keys_of-without_key {K} {X} cmp k (e ∷ es) =
    elim (eq_by_cmp cmp k e.0) as (λ b. keys_of (cond b es (e ∷ without_key cmp k es)) ≡ cond b (keys_of es) (e.0 ∷ without_member cmp k (keys_of es))) [
      | true ↦ refl
      | false ↦ ap (λ (l : List K). e.0 ∷ l) (keys_of-without_key cmp k es)
    ]

pub keys_of-each_value : {K X : Type 0} (f : K → X → X) (es : List (K × X)) → keys_of (each_value f es) ≡ keys_of es
keys_of-each_value f [] = refl
keys_of-each_value {K} {X} f (e ∷ es) = ap (λ (l : List K). e.0 ∷ l) (keys_of-each_value f es)

-- the keys of what a function makes of each of some
pub keys_of-each : {K X : Type 0} (f : K → X) (ks : List K) → keys_of (map (λ k. (k, f k)) ks) ≡ ks
keys_of-each f [] = refl
keys_of-each {K} f (k ∷ ks) = ap (λ (l : List K). k ∷ l) (keys_of-each f ks)

-- what holds of each key holds of each that stays
pub all-filter : {K X : Type 0} (P : K → Type 0) (p : K × X → Bool) (es : List (K × X)) → AllByRecursion P (keys_of es) → AllByRecursion P (keys_of (filter p es))
all-filter P p [] h = tt
all-filter P p (e ∷ es) h =
    elim (p e) as (λ b. AllByRecursion P (keys_of (cond b (e ∷ filter p es) (filter p es)))) [
      | true ↦ (h.0, all-filter P p es h.1)
      | false ↦ all-filter P p es h.1
    ]

pub IsMap-filter : {K X : Type 0} (cmp : K → K → Ordering) (p : K × X → Bool) (es : List (K × X)) → IsMap cmp es → IsMap cmp (filter p es)
unfolding IsStrictlySortedBy
IsMap-filter cmp p [] h = tt
IsMap-filter cmp p (e ∷ es) h =
    elim (p e) as (λ b. IsMap cmp (cond b (e ∷ filter p es) (filter p es))) [
      | true ↦ (all-filter (λ q. cmp e.0 q ≡ Less) p es h.0, IsMap-filter cmp p es h.1)
      | false ↦ IsMap-filter cmp p es h.1
    ]

pub IsMap-entries_where : {K X : Type 0} (cmp : K → K → Ordering) (p : K → X → Bool) (es : List (K × X)) → IsMap cmp es → IsMap cmp (entries_where p es)
IsMap-entries_where cmp p es h = IsMap-filter cmp (λ e. p e.0 e.1) es h

pub IsMap-without_keys : {K X : Type 0} (cmp : K → K → Ordering) (ks : List K) (es : List (K × X)) → IsMap cmp es → IsMap cmp (without_keys cmp ks es)
IsMap-without_keys cmp ks es h = IsMap-filter cmp (λ e. not (list_any (eq_by_cmp cmp e.0) ks)) es h

pub IsMap-each_value : {K X : Type 0} (cmp : K → K → Ordering) (f : K → X → X) (es : List (K × X)) → IsMap cmp es → IsMap cmp (each_value f es)
IsMap-each_value {K} cmp f es h = subst (λ (ks : List K). IsSet cmp ks) (sym (keys_of-each_value f es)) h

pub IsMap-changed_where : {K X : Type 0} (cmp : K → K → Ordering) (p : K → X → Bool) (f : X → X) (es : List (K × X)) → IsMap cmp es → IsMap cmp (changed_where p f es)
IsMap-changed_where cmp p f es h = IsMap-each_value cmp (λ k x. cond (p k x) (f x) x) es h

pub IsMap-without_key : {K X : Type 0} (cmp : K → K → Ordering) (k : K) (es : List (K × X)) → IsMap cmp es → IsMap cmp (without_key cmp k es)
IsMap-without_key {K} cmp k es h = subst (λ (ks : List K). IsSet cmp ks) (sym (keys_of-without_key cmp k es)) (IsSet-without_member cmp k (keys_of es) h)

module _ {K X : Type 0} {cmp : K → K → Ordering} (o : IsTotalOrder cmp) where
  pub IsMap-with_value : (k : K) (v : X) (es : List (K × X)) → IsMap cmp es → IsMap cmp (with_value cmp k v es)
  IsMap-with_value k v es h = subst (λ (ks : List K). IsSet cmp ks) (sym (keys_of-with_value cmp k v es)) (IsSet-with_key o k (keys_of es) h)

  pub IsMap-with_values : (new es : List (K × X)) → IsMap cmp es → IsMap cmp (with_values cmp new es)
  IsMap-with_values [] es h = h
  IsMap-with_values (e ∷ new) es h = IsMap-with_values new (with_value cmp e.0 e.1 es) (IsMap-with_value e.0 e.1 es h)
