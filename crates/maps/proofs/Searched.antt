-- Lists with keys in order, and the result of a binary search for a key in the entries of a map.
use Rattle.std.proofs.Common.{◌≡◌, ℕ, zero, suc, ◌+◌, ◌<◌, ◌≤◌, ◌||◌, List, [], ◌∷◌, length, get_or, Bool, true, false, IsTrue, ◌↔◌, Result, Ok, Err, refl, ap, sym, ◌∙◌, arith}
use Rattle.std.specs.declared.cmp.Ordering.{Ordering}
use Rattle.std.specs.declared.cmp.Ordering.TheVariants.{Less, Greater}
use Rattle.std.specs.Ordering.{eq_by_cmp, is_eq, is_lt}
use Rattle.std.specs.Cmp.{IsTotalOrder}
use Rattle.std.specs.List.{IsAllAdjacentAnswer, list_any}
use Rattle.std.specs.List.Sorted.{IsStrictlySortedBy, IsSearchInRange, IsBinarySearchResult, IsSortedBy}
use Rattle.std.specs.Map.{keys_of}
use Rattle.std.specs.Result.{is_ok}
use Rattle.std.proofs.lemmas.List.{get_or-map}
use Rattle.std.proofs.lemmas.List.Folds.{list_any_at}
use Rattle.std.proofs.lemmas.List.Sorted.{searchable_from_sorted}
use Rattle.std.proofs.lemmas.Map.Entries.{length-keys_of}
use Rattle.std.proofs.lemmas.Map.Keys.{Less-from_sorted, sorted_from_all_adjacent}
use Rattle.maps.proofs.Ties.{is_less, turned}
use Rattle.maps.specs.Maps.{IsMap}

module _ {K X : Type 0} {cmp : K → K → Ordering} (o : IsTotalOrder cmp) where
  -- the key at a place
  key_at : (es : List (K × X)) (i : ℕ) (d : K × X) → i < length es → get_or (keys_of es) i d.0 ≡ (get_or es i d).0
  key_at es i d lt = get_or-map (λ e. e.0) es i d d.0 lt

  -- the keys of a map rise
  rises : (es : List (K × X)) (j : ℕ) (d : K × X) → IsMap cmp es → j + 1 < length es → cmp (get_or es j d).0 (get_or es (j + 1) d).0 ≡ Less
  rises es j d h lt =
      (λ i. cmp (sym (key_at es j d (omega arith)) i) (sym (key_at es (j + 1) d lt) i))
      ∙ Less-from_sorted cmp (keys_of es) j (j + 1) d.0 h (omega arith) (omega (arith, length-keys_of es))

  -- where each key comes before the next, they are those of a map
  is_map : (es : List (K × X)) → ((j : ℕ) (d : K × X) → j + 1 < length es → cmp (get_or es j d).0 (get_or es (j + 1) d).0 ≡ Less) → IsMap cmp es
  unfolding IsStrictlySortedBy
  is_map [] h = tt
  is_map (e ∷ es) h =
      sorted_from_all_adjacent o (keys_of (e ∷ es)) e.0 (λ j lt.
      let next : j + 1 < length (e ∷ es) = omega (arith, lt, length-keys_of (e ∷ es)) in
      (λ i. cmp (key_at (e ∷ es) j e (omega arith) i) (key_at (e ∷ es) (j + 1) e next i)) ∙ h j e next)

  -- a walk from each to the next tells whether they are
  pub told : (es : List (K × X)) (r : Bool) → IsAllAdjacentAnswer (λ (x y : K × X) b. b ≡ is_lt (cmp x.0 y.0)) es r → IsTrue r ↔ IsMap cmp es
  told es true h = (λ t. is_map es (λ j d lt. is_less _ (sym (h j d lt))), λ m. refl)
  told [] false h = absurd (omega (arith, h.1))
  told (e ∷ es) false h = (λ t. cc, λ m. let less = rises (e ∷ es) h.0 e m h.1 in cc (less, h.2 e))

  pub sorted : (es : List (K × X)) → IsMap cmp es → IsSortedBy (λ (a b : K × X). is_lt (cmp a.0 b.0)) es
  sorted es h j d low lt = ap is_lt (turned o (get_or es j d).0 (get_or es (j + 1) d).0 Less (rises es j d h lt))

  -- a key is among them
  abbrev pub has : K → List (K × X) → Bool
  has k es = list_any (λ e. eq_by_cmp cmp e.0 k) es

  -- those before a place are less, and the others greater
  missed : (k : K) (es : List (K × X)) (i : ℕ)
      → ((j : ℕ) (d : K × X) → j < i → j < length es → cmp (get_or es j d).0 k ≡ Less)
      → ((j : ℕ) (d : K × X) → i ≤ j → j < length es → cmp (get_or es j d).0 k ≡ Greater) → has k es ≡ false
  missed k [] i low high = refl
  missed k (e ∷ es) zero low high =
      ap (λ r. is_eq r || has k es) (high zero e (omega arith) (omega arith))
      ∙ missed k es zero (λ j d lt within. absurd (omega arith)) (λ j d le lt. high (suc j) d (omega arith) (omega arith))
  missed k (e ∷ es) (suc i) low high =
      ap (λ r. is_eq r || has k es) (low zero e (omega arith) (omega arith))
      ∙ missed k es i (λ j d lt within. low (suc j) d (omega arith) (omega arith)) (λ j d le lt. high (suc j) d (omega arith) (omega arith))

  -- it is found if and only if it is among them
  pub found_is : (k : K) (es : List (K × X)) (r : Result ℕ ℕ) → IsMap cmp es → IsSearchInRange r (length es) → IsBinarySearchResult (λ (e : K × X). cmp e.0 k) es r → is_ok r ≡ has k es
  found_is k [] (Ok i) h within equal = absurd (omega arith)
  found_is k (e ∷ es) (Ok i) h within equal = sym (list_any_at (λ (x : K × X). eq_by_cmp cmp x.0 k) (e ∷ es) i e within (ap is_eq (equal e)))
  found_is k es (Err i) h within parted =
      let parts = parted (searchable_from_sorted o (λ (e : K × X). e.0) es k (sorted es h)) in
      sym (missed k es i (λ j d lt in_range. parts.0 j d (omega arith) lt) (λ j d le lt. parts.1 j d le lt))
