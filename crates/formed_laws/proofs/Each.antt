-- What holds of each entry of a map, after each change of it.
use Rattle.std.proofs.Common.{◌≡◌, ℕ, ◌≤◌, List, [], ◌∷◌, Bool, true, false, cond, Some, arith, filter, fold, refl, ap}
use Rattle.std.specs.declared.cmp.Ordering.{Ordering}
use Rattle.std.specs.declared.cmp.Ordering.TheVariants.{Less, Equal, Greater}
use Rattle.std.specs.BTreeMap.{is_at}
use Rattle.std.specs.List.{AllByRecursion, list_all}
use Rattle.std.specs.Map.{lookup, values_of}
use Rattle.std.specs.Ordering.{is_lt, match_ordering}
use Rattle.std.specs.List.Sorted.{IsStrictlySortedBy}
use Rattle.std.proofs.lemmas.Bool.{and_from}
use Rattle.std.proofs.lemmas.List.Sums.{sum_by-cons}
use Rattle.maps.specs.Maps.{IsSet, changed_where, each_value, sum_values, value_at, with_key, with_value, with_values, without_key}
use Rattle.maps.specs.Words.{none_or}
use Rattle.maps.proofs.Sets.{all-with_key}
use Rattle.dormant_laws.proofs.Lists.{left_of, right_of}
use Rattle.text_forms.specs.Ids.{is_rising}

-- ---- tests and facts

pub all_true : {A : Type 0} (p : A → Bool) (xs : List A) → AllByRecursion (λ x. p x ≡ true) xs → list_all p xs ≡ true
all_true p [] h = refl
all_true p (x ∷ xs) h = and_from (p x) (list_all p xs) h.0 (all_true p xs h.1)

pub each_true : {A : Type 0} (p : A → Bool) (xs : List A) → list_all p xs ≡ true → AllByRecursion (λ x. p x ≡ true) xs
each_true p [] h = tt
each_true p (x ∷ xs) h = (left_of (p x) (list_all p xs) h, each_true p xs (right_of (p x) (list_all p xs) h))

less : (r : Ordering) → r ≡ Less → is_lt r ≡ true
less r e = ap (λ (x : Ordering). is_lt x) e

all_less : {K : Type 0} (cmp : K → K → Ordering) (k : K) (ks : List K) → AllByRecursion (λ q. cmp k q ≡ Less) ks → list_all (λ q. is_lt (cmp k q)) ks ≡ true
all_less cmp k [] h = refl
all_less cmp k (q ∷ ks) h = and_from (is_lt (cmp k q)) (list_all (λ x. is_lt (cmp k x)) ks) (less (cmp k q) h.0) (all_less cmp k ks h.1)

pub rising_from_set : {K : Type 0} (cmp : K → K → Ordering) (ks : List K) → IsSet cmp ks → is_rising cmp ks ≡ true
unfolding IsStrictlySortedBy
rising_from_set cmp [] h = refl
rising_from_set cmp (k ∷ ks) h = and_from (list_all (λ q. is_lt (cmp k q)) ks) (is_rising cmp ks) (all_less cmp k ks h.0) (rising_from_set cmp ks h.1)

-- ---- sums

-- each value is at most the sum
pub each_within : {K X : Type 0} (f : X → ℕ) (n : ℕ) (es : List (K × X)) → sum_values f es ≤ n → AllByRecursion (λ (e : K × X). f e.1 ≤ n) es
each_within f n [] h = tt
each_within f n (e ∷ es) h =
    let s = sum_by-cons f e.1 (values_of es) in
    (omega (arith, s, h), each_within f n es (omega (arith, s, h)))

-- ---- keys in order

pub all-in_order : {K : Type 0} (cmp : K → K → Ordering) (P : K → Type 0) (ks acc : List K) → AllByRecursion P ks → AllByRecursion P acc → AllByRecursion P (fold (λ s k. with_key cmp k s) acc ks)
all-in_order cmp P [] acc h k = k
all-in_order cmp P (c ∷ ks) acc h k = all-in_order cmp P ks (with_key cmp c acc) h.1 (all-with_key cmp P c acc h.0 k)

-- ---- maps

module _ {K X : Type 0} (p : K → Bool) (q : X → Bool) where
  -- each key and each value passes
  abbrev pub Each : List (K × X) → Type 0
  Each es = AllByRecursion (λ (e : K × X). (p e.0 ≡ true) × (q e.1 ≡ true)) es

  pub each-with_value : (cmp : K → K → Ordering) (k : K) (v : X) (es : List (K × X)) → p k ≡ true → q v ≡ true → Each es → Each (with_value cmp k v es)
  each-with_value cmp k v [] a b h = ((a, b), tt)
  each-with_value cmp k v (e ∷ es) a b h =
      elim (cmp k e.0) as (λ r. Each (match_ordering r ((k, v) ∷ e ∷ es) ((e.0, v) ∷ es) (e ∷ with_value cmp k v es))) [
        | Less ↦ ((a, b), h)
        | Equal ↦ ((h.0.0, b), h.1)
        | Greater ↦ (h.0, each-with_value cmp k v es a b h.1)
      ]

  pub each-with_values : (cmp : K → K → Ordering) (new es : List (K × X)) → Each new → Each es → Each (with_values cmp new es)
  each-with_values cmp [] es n h = h
  each-with_values cmp (e ∷ new) es n h = each-with_values cmp new (with_value cmp e.0 e.1 es) n.1 (each-with_value cmp e.0 e.1 es n.0.0 n.0.1 h)

  pub each-without_key : (cmp : K → K → Ordering) (k : K) (es : List (K × X)) → Each es → Each (without_key cmp k es)
  each-without_key cmp k [] h = tt
  each-without_key cmp k (e ∷ es) h = elim (is_at (cmp k) e.0) as (λ b. Each (cond b es (e ∷ without_key cmp k es))) [
    | true ↦ h.1
    | false ↦ (h.0, each-without_key cmp k es h.1)
  ]

  pub each-filter : (t : K × X → Bool) (es : List (K × X)) → Each es → Each (filter t es)
  each-filter t [] h = tt
  each-filter t (e ∷ es) h = elim (t e) as (λ b. Each (cond b (e ∷ filter t es) (filter t es))) [
    | true ↦ (h.0, each-filter t es h.1)
    | false ↦ each-filter t es h.1
  ]

  pub each-each_value : (f : K → X → X) → ((k : K) (x : X) → q x ≡ true → q (f k x) ≡ true) → (es : List (K × X)) → Each es → Each (each_value f es)
  each-each_value f g [] h = tt
  each-each_value f g (e ∷ es) h = ((h.0.0, g e.0 e.1 h.0.1), each-each_value f g es h.1)

  by_test : (b : Bool) (x y : X) → q x ≡ true → q y ≡ true → q (cond b x y) ≡ true
  by_test true x y h k = h
  by_test false x y h k = k

  pub each-changed_where : (t : K → X → Bool) (f : X → X) → ((x : X) → q x ≡ true → q (f x) ≡ true) → (es : List (K × X)) → Each es → Each (changed_where t f es)
  each-changed_where t f g [] h = tt
  each-changed_where t f g (e ∷ es) h = ((h.0.0, by_test (t e.0 e.1) (f e.1) e.1 (g e.1 h.0.1) h.0.1), each-changed_where t f g es h.1)

  -- what is found passes
  pub each-at : (cmp : K → K → Ordering) (k : K) (es : List (K × X)) → Each es → none_or q (value_at cmp es k) ≡ true
  each-at cmp k [] h = refl
  each-at cmp k (e ∷ es) h = elim (is_at (cmp k) e.0) as (λ b. none_or q (cond b (Some e.1) (lookup (is_at (cmp k)) es)) ≡ true) [
    | true ↦ h.0.1
    | false ↦ each-at cmp k es h.1
  ]
