-- Keys that are put in one after another, none of which is there.
use Rattle.std.proofs.Common.{◌≡◌, ℕ, ◌+◌, ◌<◌, List, [], ◌∷◌, length, get_or, drop, Bool, true, false, not, ◌||◌, cond, Some, None, refl, ap, sym, ◌∙◌, arith}
use Rattle.std.specs.declared.cmp.Ordering.{Ordering}
use Rattle.std.specs.Ordering.{eq_by_cmp}
use Rattle.std.specs.Cmp.{IsTotalOrder}
use Rattle.std.specs.List.{list_any, AllByRecursion, IsDistinct}
use Rattle.std.specs.Map.{keys_of, values_of}
use Rattle.std.proofs.lemmas.Bool.{or_parts}
use Rattle.std.proofs.lemmas.List.{at_drop_more}
use Rattle.std.proofs.lemmas.List.Sums.{sum_by-cons}
use Rattle.maps.proofs.Joined.{no_from_not, or_pairs, or_swap_assoc, yes_from_not}
use Rattle.maps.proofs.Lookups.{value_at-with_value}
use Rattle.maps.proofs.Sets.{all-with_key, has_member-with_key}
use Rattle.maps.proofs.Kept.{keys_of-with_value}
use Rattle.maps.proofs.Sums.{sum_values-with_value_absent}
use Rattle.maps.specs.Maps.{value_at, has_member, with_value, with_values, with_key, sum_values}
use Rattle.maps.specs.Words.{repeats}

none_holds : {A : Type 0} (p : A → Bool) (xs : List A) → list_any p xs ≡ false → AllByRecursion (λ x. p x ≡ false) xs
none_holds p [] h = tt
none_holds p (x ∷ xs) h =
    elim (p x) as (λ b. p x ≡ b → (b || list_any p xs) ≡ false → AllByRecursion (λ y. p y ≡ false) (x ∷ xs)) [
      | true ↦ λ e h. cc
      | false ↦ λ e h. (e, none_holds p xs h)
    ] refl h

-- keys that do not repeat are distinct
pub distinct_from_repeats : {K : Type 0} (cmp : K → K → Ordering) (ks : List K) → repeats cmp ks ≡ false → IsDistinct (eq_by_cmp cmp) ks
unfolding IsDistinct
distinct_from_repeats cmp [] h = tt
distinct_from_repeats cmp (k ∷ ks) h =
    let parts = or_parts (list_any (eq_by_cmp cmp k) ks) (repeats cmp ks) h in
    (none_holds (eq_by_cmp cmp k) ks parts.0, distinct_from_repeats cmp ks parts.1)

any_either : {A : Type 0} (r p q : A → Bool) (xs : List A) → ((x : A) → r x ≡ (p x || q x)) → list_any r xs ≡ (list_any p xs || list_any q xs)
any_either r p q [] h = refl
any_either r p q (x ∷ xs) h = (λ i. h x i || any_either r p q xs h i) ∙ or_pairs (p x) (q x) (list_any p xs) (list_any q xs)

-- one of the keys was seen, or they repeat
abbrev pub seen_or_repeats : {K : Type 0} → (K → K → Ordering) → List K → List K → Bool
seen_or_repeats cmp seen ks = list_any (has_member cmp seen) ks || repeats cmp ks

none_seen : {K : Type 0} (cmp : K → K → Ordering) (ks : List K) → list_any (has_member cmp []) ks ≡ false
none_seen cmp [] = refl
none_seen cmp (k ∷ ks) = none_seen cmp ks

pub seen_or_repeats-none : {K : Type 0} (cmp : K → K → Ordering) (ks : List K) → seen_or_repeats cmp [] ks ≡ repeats cmp ks
seen_or_repeats-none cmp ks = ap (λ b. b || repeats cmp ks) (none_seen cmp ks)

pub seen_or_repeats-seen : {K : Type 0} (cmp : K → K → Ordering) (seen : List K) (k : K) (ks : List K) → has_member cmp seen k ≡ true → seen_or_repeats cmp seen (k ∷ ks) ≡ true
seen_or_repeats-seen cmp seen k ks h = ap (λ b. (b || list_any (has_member cmp seen) ks) || repeats cmp (k ∷ ks)) h

pub seen_or_repeats-more : {K : Type 0} {cmp : K → K → Ordering} → IsTotalOrder cmp → (seen : List K) (k : K) (ks : List K) → has_member cmp seen k ≡ false
    → seen_or_repeats cmp seen (k ∷ ks) ≡ seen_or_repeats cmp (with_key cmp k seen) ks
seen_or_repeats-more {K} {cmp} o seen k ks h =
    ap (λ b. (b || list_any (has_member cmp seen) ks) || repeats cmp (k ∷ ks)) h
    ∙ or_swap_assoc (list_any (has_member cmp seen) ks) (list_any (eq_by_cmp cmp k) ks) (repeats cmp ks)
    ∙ ap (λ b. b || repeats cmp ks) (sym (any_either (has_member cmp (with_key cmp k seen)) (eq_by_cmp cmp k) (has_member cmp seen) ks (λ q. has_member-with_key o k seen q)))

module _ {K X : Type 0} (cmp : K → K → Ordering) where
  -- each entry in turn comes to a key with no value
  abbrev pub AreFresh : List (K × X) → List (K × X) → Type 0
  AreFresh [] es = Unit {0}
  AreFresh (e ∷ new) es = (value_at cmp es e.0 ≡ None) × AreFresh new (with_value cmp e.0 e.1 es)

  pub sum_values-fresh : (f : X → ℕ) (new es : List (K × X)) → AreFresh new es → sum_values f (with_values cmp new es) ≡ sum_values f es + sum_values f new
  sum_values-fresh f [] es h = omega arith
  sum_values-fresh f (e ∷ new) es h =
      omega (arith, sum_values-fresh f new (with_value cmp e.0 e.1 es) h.1, sum_values-with_value_absent f cmp e.0 e.1 es h.0, sum_by-cons f e.1 (values_of new))

  -- what holds of each key holds of each once more are put in
  pub all-with_value : (P : K → Type 0) (k : K) (v : X) (es : List (K × X)) → P k → AllByRecursion P (keys_of es) → AllByRecursion P (keys_of (with_value cmp k v es))
  all-with_value P k v es p h = rw keys_of-with_value (all-with_key cmp P k (keys_of es) p h)

  pub all-with_values : (P : K → Type 0) (new es : List (K × X)) → AllByRecursion P (keys_of new) → AllByRecursion P (keys_of es) → AllByRecursion P (keys_of (with_values cmp new es))
  all-with_values P [] es p h = h
  all-with_values P (e ∷ new) es p h = all-with_values P new (with_value cmp e.0 e.1 es) p.1 (all-with_value P e.0 e.1 es p.0 h)

module _ {K X : Type 0} {cmp : K → K → Ordering} (o : IsTotalOrder cmp) where
  absent_still : (k : K) (v : X) (es : List (K × X)) (ks : List K) → AllByRecursion (λ q. eq_by_cmp cmp k q ≡ false) ks → AllByRecursion (λ q. value_at cmp es q ≡ None) ks → AllByRecursion (λ q. value_at cmp (with_value cmp k v es) q ≡ None) ks
  absent_still k v es [] a m = tt
  absent_still k v es (q ∷ ks) a m = (value_at-with_value o k v es q ∙ ap (λ b. cond b (Some v) (value_at cmp es q)) a.0 ∙ m.0, absent_still k v es ks a.1 m.1)

  -- distinct keys with no value are fresh
  pub fresh_from_absent : (new es : List (K × X)) → IsDistinct (eq_by_cmp cmp) (keys_of new) → AllByRecursion (λ q. value_at cmp es q ≡ None) (keys_of new) → AreFresh cmp new es
  unfolding IsDistinct
  fresh_from_absent [] es d m = tt
  fresh_from_absent (e ∷ new) es d m = (m.0, fresh_from_absent new (with_value cmp e.0 e.1 es) d.1 (absent_still e.0 e.1 es (keys_of new) d.0 m.1))

module _ {K X : Type 0} (cmp : K → K → Ordering) where
  -- at an entry whose key was seen
  pub seen_or_repeats-stop : (seen : List K) (es : List (K × X)) (i : ℕ) (d : K × X) (b : Bool) → i < length es → b ≡ not (has_member cmp seen (get_or es i d).0) → b ≡ false
      → seen_or_repeats cmp seen (keys_of (drop i es)) ≡ true
  seen_or_repeats-stop seen es i d b l e f =
      at_drop_more (λ (left : List (K × X)). seen_or_repeats cmp seen (keys_of left)) es i d l
      ∙ seen_or_repeats-seen cmp seen (get_or es i d).0 (keys_of (drop (i + 1) es)) (yes_from_not _ _ e f)

  -- at an entry whose key was not
  pub seen_or_repeats-step : IsTotalOrder cmp → (seen : List K) (es : List (K × X)) (i : ℕ) (d : K × X) (b : Bool) → i < length es → b ≡ not (has_member cmp seen (get_or es i d).0) → b ≡ true
      → seen_or_repeats cmp seen (keys_of (drop i es)) ≡ seen_or_repeats cmp (with_key cmp (get_or es i d).0 seen) (keys_of (drop (i + 1) es))
  seen_or_repeats-step o seen es i d b l e f =
      at_drop_more (λ (left : List (K × X)). seen_or_repeats cmp seen (keys_of left)) es i d l
      ∙ seen_or_repeats-more o seen (get_or es i d).0 (keys_of (drop (i + 1) es)) (no_from_not _ _ e f)
