-- Entries that are put into a book in order are all that it then has.
use Rattle.std.proofs.Common.{◌≡◌, ℕ, ◌+◌, ◌<◌, ◌≤◌, List, [], ◌∷◌, Bool, true, false, cond, drop, get_or, length, Option, Some, None, refl, ap, sym, subst, ◌∙◌, arith}
use Rattle.std.specs.declared.cmp.Ordering.{Ordering}
use Rattle.std.specs.Ordering.{eq_by_cmp}
use Rattle.std.specs.Cmp.{IsTotalOrder}
use Rattle.std.specs.FinMap.{IsAntisymmetric}
use Rattle.std.specs.List.{AllByRecursion}
use Rattle.std.specs.List.Sorted.{IsStrictlySortedBy}
use Rattle.std.specs.Map.{keys_of, values_of}
use Rattle.std.specs.Option.{option_or}
use Rattle.std.proofs.lemmas.List.{at_drop_more, drop_all, drop_more}
use Rattle.std.proofs.lemmas.List.Sums.{sum_by-cons}
use Rattle.std.proofs.lemmas.Map.Keys.{IsDistinct-from_sorted}
use Rattle.maps.proofs.Fresh.{AreFresh, fresh_from_absent}
use Rattle.maps.proofs.Kept.{IsMap-with_value, IsMap-with_values}
use Rattle.maps.proofs.Lookups.{value_at-with_value}
use Rattle.maps.proofs.Same.{map_from_value_at, set_from_has_member}
use Rattle.maps.proofs.Several.{value_at-with_values_distinct}
use Rattle.maps.proofs.Sets.{IsSet-in_order, has_member-in_order}
use Rattle.maps.proofs.Sums.{sum_values-with_value_absent}
use Rattle.maps.proofs.Ties.{same_key}
use Rattle.maps.specs.Maps.{IsMap, IsSet, in_order, sum_values, value_at, with_value, with_values}

no_other : {A : Type 0} (x : Option A) → option_or x None ≡ x
no_other None = refl
no_other (Some v) = refl

empty_is_map : {K : Type 0} (X : Type 0) (cmp : K → K → Ordering) → IsMap {K = K} {X = X} cmp []
unfolding IsStrictlySortedBy
empty_is_map X cmp = tt

none_there : {K : Type 0} (X : Type 0) (cmp : K → K → Ordering) (ks : List K) → AllByRecursion (λ q. value_at {K = K} {X = X} cmp [] q ≡ None) ks
none_there X cmp [] = tt
none_there X cmp (k ∷ ks) = (refl, none_there X cmp ks)

-- keys in order are all that they are in order
pub set_in_order : {K : Type 0} {cmp : K → K → Ordering} → IsTotalOrder cmp → IsAntisymmetric cmp → (ks : List K) → IsSet cmp ks → in_order cmp ks ≡ ks
set_in_order {K} {cmp} o exact ks h = set_from_has_member o exact (in_order cmp ks) ks (IsSet-in_order o ks) h (λ q. has_member-in_order o ks q)

module _ {K X : Type 0} {cmp : K → K → Ordering} (o : IsTotalOrder cmp) where
  -- entries in order are new to an empty book
  pub fresh_in_order : (es : List (K × X)) → IsMap cmp es → AreFresh cmp es []
  fresh_in_order es h = fresh_from_absent o es [] (IsDistinct-from_sorted cmp (keys_of es) h) (none_there X cmp (keys_of es))

  module _ (exact : IsAntisymmetric cmp) where
    -- and are all that it has after them
    pub put_in_order : (es : List (K × X)) → IsMap cmp es → with_values cmp es [] ≡ es
    put_in_order es h =
        map_from_value_at o exact (with_values cmp es []) es (IsMap-with_values o es [] (empty_is_map X cmp)) h
        (λ q. value_at-with_values_distinct o es [] q (IsDistinct-from_sorted cmp (keys_of es) h) ∙ no_other (value_at cmp es q))

    there_by : (k q : K) (v : X) (es : List (K × X)) (b : Bool) → eq_by_cmp cmp k q ≡ b → value_at cmp es k ≡ Some v → cond b (Some v) (value_at cmp es q) ≡ value_at cmp es q
    there_by k q v es true t here = sym here ∙ ap (λ (x : K). value_at cmp es x) (same_key exact k q t)
    there_by k q v es false t here = refl

    -- an entry that is there changes nothing
    pub put_there : (k : K) (v : X) (es : List (K × X)) → IsMap cmp es → value_at cmp es k ≡ Some v → with_value cmp k v es ≡ es
    put_there k v es h here =
        map_from_value_at o exact (with_value cmp k v es) es (IsMap-with_value o k v es h) h (λ q. value_at-with_value o k v es q ∙ there_by k q v es (eq_by_cmp cmp k q) refl here)

-- an entry of a list is put in, and those behind it are left
module _ {K X : Type 0} (cmp : K → K → Ordering) (items : List (K × X)) (i : ℕ) (d : K × X) (es fs : List (K × X)) where
  pub listed_next : i < length items → fs ≡ with_value cmp (get_or items i d).0 (get_or items i d).1 es → with_values cmp (drop (i + 1) items) fs ≡ with_values cmp (drop i items) es
  listed_next l put = ap (λ (x : List (K × X)). with_values cmp (drop (i + 1) items) x) put ∙ sym (at_drop_more (λ (left : List (K × X)). with_values cmp left es) items i d l)

-- nothing is left
pub listed_done : {K X : Type 0} {cmp : K → K → Ordering} → IsTotalOrder cmp → IsAntisymmetric cmp → (items new : List (K × X)) (i : ℕ) (es : List (K × X)) → length items ≤ i
    → IsMap cmp new → with_values cmp (drop i items) es ≡ with_values cmp new [] → es ≡ new
listed_done {K} {X} {cmp} o exact items new i es l h e =
    sym (ap (λ (left : List (K × X)). with_values cmp left es) (drop_all i items l)) ∙ e ∙ put_in_order o exact new h

-- the first of what is left is put in
module _ {K X : Type 0} (cmp : K → K → Ordering) (e : K × X) (left rest es : List (K × X)) (steps : left ≡ e ∷ rest) where
  fresh_now : AreFresh cmp left es → AreFresh cmp (e ∷ rest) es
  fresh_now h = subst (λ (l : List (K × X)). AreFresh cmp l es) steps h

  -- its key is new
  pub new_key : AreFresh cmp left es → value_at cmp es e.0 ≡ None
  new_key h = (fresh_now h).0

  -- and so are those of the others after it
  pub new_keys : (fs : List (K × X)) → fs ≡ with_value cmp e.0 e.1 es → AreFresh cmp left es → AreFresh cmp rest fs
  new_keys fs put h = subst (λ (x : List (K × X)). AreFresh cmp rest x) (sym put) (fresh_now h).1

  -- with the others it makes what was to be made
  pub put_next : (fs : List (K × X)) → fs ≡ with_value cmp e.0 e.1 es → with_values cmp rest fs ≡ with_values cmp left es
  put_next fs put = ap (λ (x : List (K × X)). with_values cmp rest x) put ∙ ap (λ (l : List (K × X)). with_values cmp l es) (sym steps)

  -- and the sum with the others stays
  pub sum_next : (f : X → ℕ) → AreFresh cmp left es → sum_values f (with_value cmp e.0 e.1 es) + sum_values f rest ≡ sum_values f es + sum_values f left
  sum_next f h =
      omega (arith, sum_values-with_value_absent f cmp e.0 e.1 es (new_key h), ap (λ (l : List (K × X)). sum_values f l) steps, sum_by-cons f e.1 (values_of rest))

-- there is room for the first of what is left
pub room_now : {K X : Type 0} (cmp : K → K → Ordering) (f : X → ℕ) (items : List (K × X)) (i : ℕ) (d : K × X) (es : List (K × X)) (n most : ℕ) → i < length items → AreFresh cmp (drop i items) es → n ≡ 0
    → sum_values f es + sum_values f (drop i items) ≤ most → n + sum_values f (with_value cmp (get_or items i d).0 (get_or items i d).1 es) ≤ most
room_now cmp f items i d es n most l h none room =
    omega (arith, none, room, sum_next cmp (get_or items i d) (drop i items) (drop (i + 1) items) es (drop_more items i d l) f h)

-- it alone is no more than all that is left
pub within_left : {K X : Type 0} (f : X → ℕ) (e : K × X) (left rest : List (K × X)) → left ≡ e ∷ rest → f e.1 ≤ sum_values f left
within_left {K} {X} f e left rest steps = omega (arith, ap (λ (l : List (K × X)). sum_values f l) steps, sum_by-cons f e.1 (values_of rest))

-- no item is left
pub none_left : {X : Type 0} (xs : List X) (n : ℕ) → n ≡ length xs → n ≡ 0 → xs ≡ []
none_left [] n h z = refl
none_left (x ∷ xs) n h z = absurd (omega (arith, h, z))
