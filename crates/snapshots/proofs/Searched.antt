-- What a binary search by key finds among the entries of a map is the value at the key.
use Rattle.std.proofs.Common.{◌≡◌, ℕ, zero, suc, ◌<◌, ◌≤◌, List, [], ◌∷◌, length, slice_index_or, cond, Some, None, Err, refl, ap, sym, ◌∙◌, arith}
use Rattle.std.specs.declared.cmp.Ordering.{Ordering}
use Rattle.std.specs.declared.cmp.Ordering.TheVariants.{Less, Equal, Greater}
use Rattle.std.specs.Ordering.{is_eq}
use Rattle.std.specs.Cmp.{IsTotalOrder}
use Rattle.std.specs.List.{AllByRecursion}
use Rattle.std.specs.List.Sorted.{IsStrictlySortedBy, IsBinarySearchResult}
use Rattle.std.specs.Map.{keys_of}
use Rattle.std.proofs.lemmas.List.Sorted.{searchable_from_sorted}
use Rattle.maps.proofs.Searched.{sorted}
use Rattle.maps.proofs.Ties.{turned}
use Rattle.maps.specs.Maps.{IsMap, value_at}

module _ {K X : Type 0} {cmp : K → K → Ordering} (o : IsTotalOrder cmp) where
  -- what holds of each key holds of the one at a place
  each_at : (P : K → Type 0) (es : List (K × X)) (j : ℕ) (d : K × X) → AllByRecursion P (keys_of es) → j < length es → P (slice_index_or es j d).0
  each_at P [] j d h lt = absurd (omega arith)
  each_at P (e ∷ es) zero d h lt = h.0
  each_at P (e ∷ es) (suc j) d h lt = each_at P es j d h.1 (omega arith)

  value_by : (k : K) (e : K × X) (es : List (K × X)) (r : Ordering) → cmp k e.0 ≡ r → value_at cmp (e ∷ es) k ≡ cond (is_eq r) (Some e.1) (value_at cmp es k)
  value_by k e es r p = ap (λ s. cond (is_eq s) (Some e.1) (value_at cmp es k)) p

  -- the key stands at the place i
  pub found : (k : K) (es : List (K × X)) (i : ℕ) (d : K × X) → IsMap cmp es → i < length es → cmp (slice_index_or es i d).0 k ≡ Equal
      → value_at cmp es k ≡ Some (slice_index_or es i d).1
  unfolding IsStrictlySortedBy
  found k [] i d h lt at = absurd (omega arith)
  found k (e ∷ es) zero d h lt at = value_by k e es Equal (turned o e.0 k Equal at)
  found k (e ∷ es) (suc i) d h lt at =
      let there = (slice_index_or es i d).0 in
      let below : cmp e.0 there ≡ Less = each_at (λ q. cmp e.0 q ≡ Less) es i d h.0 (omega arith) in
      let greater : cmp k e.0 ≡ Greater = sym (o.congr there k e.0 at) ∙ turned o e.0 there Less below in
      value_by k e es Greater greater ∙ found k es i d h.1 (omega arith) at

  -- the entries before the place i come before the key, and the others after it
  parted : (k : K) (es : List (K × X)) (i : ℕ) → ((j : ℕ) (d : K × X) → j < i → j < length es → cmp (slice_index_or es j d).0 k ≡ Less)
      → ((j : ℕ) (d : K × X) → i ≤ j → j < length es → cmp (slice_index_or es j d).0 k ≡ Greater) → value_at cmp es k ≡ None
  parted k [] i low high = refl
  parted k (e ∷ es) zero low high =
      value_by k e es Less (turned o e.0 k Greater (high zero e (omega arith) (omega arith)))
      ∙ parted k es zero (λ j d lt within. absurd (omega arith)) (λ j d le lt. high (suc j) d (omega arith) (omega arith))
  parted k (e ∷ es) (suc i) low high =
      value_by k e es Greater (turned o e.0 k Less (low zero e (omega arith) (omega arith)))
      ∙ parted k es i (λ j d lt within. low (suc j) d (omega arith) (omega arith)) (λ j d le lt. high (suc j) d (omega arith) (omega arith))

  -- a search that finds no place
  pub missed : (k : K) (es : List (K × X)) (i : ℕ) → IsMap cmp es → i ≤ length es → IsBinarySearchResult (λ (e : K × X). cmp e.0 k) es (Err i) → value_at cmp es k ≡ None
  missed k es i h within search_parted =
      let parts = search_parted (searchable_from_sorted o (λ (e : K × X). e.0) es k (sorted o es h)) in
      parted k es i (λ j d lt at. parts.0 j d (omega arith) lt) (λ j d le lt. parts.1 j d le lt)
