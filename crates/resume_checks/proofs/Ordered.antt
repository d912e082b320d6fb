-- Lists in order: each key against the next, and what a binary search finds.
use Rattle.std.proofs.Common.{◌≡◌, ℕ, zero, suc, ◌+◌, ◌<◌, ◌≤◌, ◌||◌, List, [], ◌∷◌, length, get_or, Bool, true, false, Option, Some, None, is_some, Result, Ok, Err, refl, ap, sym, ◌∙◌, arith}
use Rattle.std.specs.declared.cmp.Ordering.{Ordering}
use Rattle.std.specs.declared.cmp.Ordering.TheVariants.{Less, Equal, Greater}
use Rattle.std.specs.Ordering.{eq_by_cmp, is_eq, is_lt}
use Rattle.std.specs.Cmp.{IsTotalOrder}
use Rattle.std.specs.List.{AllByRecursion, IsAllAdjacentAnswer, list_all}
use Rattle.std.specs.List.Sorted.{IsBinarySearchResult, IsSearchInRange, IsSortedBy, IsStrictlySortedBy}
use Rattle.std.specs.Map.{keys_of}
use Rattle.std.specs.Result.{is_ok, result_ok}
use Rattle.std.proofs.lemmas.Bool.{and_from, and_parts}
use Rattle.std.proofs.lemmas.List.Folds.{list_any_at}
use Rattle.std.proofs.lemmas.List.Sorted.{searchable_from_sorted}
use Rattle.std.proofs.lemmas.Map.Keys.{Less-from_sorted, sorted_from_all_adjacent}
use Rattle.maps.proofs.Searched.{told}
use Rattle.maps.proofs.Ties.{is_less, turned}
use Rattle.maps.specs.Maps.{IsSet, has_key, has_member}
use Rattle.snapshots.proofs.Searched.{found, missed}
use Rattle.text_forms.specs.Ids.{is_map, is_rising}
use Rattle.resume_checks.specs.Order.{IsIndexOf}
use Rattle.resume_checks.proofs.Bools.{never}

module _ {K : Type 0} (cmp : K → K → Ordering) where
  all_less : (k : K) (ks : List K) → list_all (λ q. is_lt (cmp k q)) ks ≡ true → AllByRecursion (λ q. cmp k q ≡ Less) ks
  all_less k [] h = tt
  all_less k (q ∷ ks) h =
      let parts = and_parts (is_lt (cmp k q)) (list_all (λ x. is_lt (cmp k x)) ks) h in
      (is_less (cmp k q) parts.0, all_less k ks parts.1)

  less_all : (k : K) (ks : List K) → AllByRecursion (λ q. cmp k q ≡ Less) ks → list_all (λ q. is_lt (cmp k q)) ks ≡ true
  less_all k [] h = refl
  less_all k (q ∷ ks) h = and_from (is_lt (cmp k q)) (list_all (λ x. is_lt (cmp k x)) ks) (ap is_lt h.0) (less_all k ks h.1)

  -- keys that pass are in order
  pub set_from_rising : (ks : List K) → is_rising cmp ks ≡ true → IsSet cmp ks
  unfolding IsStrictlySortedBy
  set_from_rising [] h = tt
  set_from_rising (k ∷ ks) h =
      let parts = and_parts (list_all (λ q. is_lt (cmp k q)) ks) (is_rising cmp ks) h in
      (all_less k ks parts.0, set_from_rising ks parts.1)

  -- and keys in order pass
  pub rising_from_set : (ks : List K) → IsSet cmp ks → is_rising cmp ks ≡ true
  unfolding IsStrictlySortedBy
  rising_from_set [] h = refl
  rising_from_set (k ∷ ks) h =
      and_from (list_all (λ q. is_lt (cmp k q)) ks) (is_rising cmp ks) (less_all k ks h.0) (rising_from_set ks h.1)

module _ {K : Type 0} {cmp : K → K → Ordering} (o : IsTotalOrder cmp) where
  -- a walk from each key to the next tells whether they are in order
  pub told_keys : (ks : List K) (r : Bool) → IsAllAdjacentAnswer (λ (x y : K) b. b ≡ is_lt (cmp x y)) ks r → r ≡ is_rising cmp ks
  told_keys [] true h = refl
  told_keys (k ∷ ks) true h = sym (rising_from_set cmp (k ∷ ks) (sorted_from_all_adjacent o (k ∷ ks) k (λ j lt. is_less _ (sym (h j k lt)))))
  told_keys [] false h = absurd (omega (arith, h.1))
  told_keys (k ∷ ks) false h =
      never (is_rising cmp (k ∷ ks)) (λ t. let less = Less-from_sorted cmp (k ∷ ks) h.0 (h.0 + 1) k (set_from_rising cmp (k ∷ ks) t) (omega arith) h.1 in cc (less, h.2 k))

  -- the same of entries
  pub told_entries : {X : Type 0} (es : List (K × X)) (r : Bool) → IsAllAdjacentAnswer (λ (x y : K × X) b. b ≡ is_lt (cmp x.0 y.0)) es r → r ≡ is_map cmp es
  told_entries es true h = sym (rising_from_set cmp (keys_of es) ((told o es true h).0 refl))
  told_entries es false h = never (is_map cmp es) (λ t. let wrong = (told o es false h).1 (set_from_rising cmp (keys_of es) t) in cc)

  -- ---- searches

  -- the place that a search for a key answers
  pub index_by : {X : Type 0} (k : K) (es : List (K × X)) (r : Result ℕ ℕ) → is_map cmp es ≡ true → IsSearchInRange r (length es)
      → IsBinarySearchResult (λ (e : K × X). cmp e.0 k) es r → IsIndexOf cmp es k (result_ok r)
  index_by k es (Ok i) h within equal = (within, λ d. found o k es i d (set_from_rising cmp (keys_of es) h) within (equal d))
  index_by k es (Err i) h within parted = missed o k es i (set_from_rising cmp (keys_of es) h) within parted

  -- there is a place if and only if the key has an entry
  pub has_by : {X : Type 0} (k : K) (es : List (K × X)) (r : Option ℕ) → IsIndexOf cmp es k r → is_some r ≡ has_key cmp es k
  has_by k es None e = sym (ap is_some e)
  has_by k [] (Some i) h = absurd (omega (arith, h.0))
  has_by k (e ∷ es) (Some i) h = sym (ap is_some (h.1 e))

  sorted_keys : (ks : List K) → IsSet cmp ks → IsSortedBy (λ (a b : K). is_lt (cmp a b)) ks
  sorted_keys ks h j d low lt = ap is_lt (turned o (get_or ks j d) (get_or ks (j + 1) d) Less (Less-from_sorted cmp ks j (j + 1) d h (omega arith) lt))

  -- the keys before the place i come before the key, and the others after it
  parted_keys : (k : K) (ks : List K) (i : ℕ)
      → ((j : ℕ) (d : K) → j < i → j < length ks → cmp (get_or ks j d) k ≡ Less)
      → ((j : ℕ) (d : K) → i ≤ j → j < length ks → cmp (get_or ks j d) k ≡ Greater) → has_member cmp ks k ≡ false
  parted_keys k [] i low high = refl
  parted_keys k (x ∷ ks) zero low high =
      ap (λ r. is_eq r || has_member cmp ks k) (turned o x k Greater (high zero x (omega arith) (omega arith)))
      ∙ parted_keys k ks zero (λ j d lt within. absurd (omega arith)) (λ j d le lt. high (suc j) d (omega arith) (omega arith))
  parted_keys k (x ∷ ks) (suc i) low high =
      ap (λ r. is_eq r || has_member cmp ks k) (turned o x k Less (low zero x (omega arith) (omega arith)))
      ∙ parted_keys k ks i (λ j d lt within. low (suc j) d (omega arith) (omega arith)) (λ j d le lt. high (suc j) d (omega arith) (omega arith))

  -- a key is found if and only if it is among them
  pub member_by : (k : K) (ks : List K) (r : Result ℕ ℕ) → is_rising cmp ks ≡ true → IsSearchInRange r (length ks) → IsBinarySearchResult (λ q. cmp q k) ks r → is_ok r ≡ has_member cmp ks k
  member_by k [] (Ok i) h within equal = absurd (omega arith)
  member_by k (x ∷ ks) (Ok i) h within equal =
      sym (list_any_at (eq_by_cmp cmp k) (x ∷ ks) i x within (ap is_eq (turned o (get_or (x ∷ ks) i x) k Equal (equal x))))
  member_by k ks (Err i) h within parted =
      let parts = parted (searchable_from_sorted o (λ (q : K). q) ks k (sorted_keys ks (set_from_rising cmp ks h))) in
      sym (parted_keys k ks i (λ j d lt in_range. parts.0 j d (omega arith) lt) (λ j d le lt. parts.1 j d le lt))
