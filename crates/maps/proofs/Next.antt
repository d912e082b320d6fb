-- The next entry or key is the first of a range.
use Rattle.std.proofs.Common.{◌≡◌, List, [], ◌∷◌, Bool, true, false, cond, Option, Some, None, filter, slice_get, refl, ap, sym, ◌∙◌}
use Rattle.std.specs.declared.cmp.Ordering.{Ordering}
use Rattle.std.specs.declared.ops.Bound.{Bound}
use Rattle.std.specs.declared.ops.Bound.TheVariants.{Unbounded}
use Rattle.std.specs.BTreeMap.Range.{range_contains, entries_between}
use Rattle.std.specs.List.{find}
use Rattle.maps.proofs.Joined.{and_true}
use Rattle.maps.specs.Maps.{comes_past, start_past, entry_after, key_after}

find-filter : {A : Type 0} (p : A → Bool) (xs : List A) → find p xs ≡ slice_get (filter p xs) 0
find-filter p [] = refl
find-filter p (x ∷ xs) = elim (p x) as (λ b. cond b (Some x) (find p xs) ≡ slice_get (cond b (x ∷ filter p xs) (filter p xs)) 0) [ true ↦ refl | false ↦ find-filter p xs ]

module _ {K : Type 0} (cmp : K → K → Ordering) where
  -- what comes past a key is what a range without an end has
  pub in_range : (after : Option K) (q : K) → range_contains cmp (start_past after) Unbounded q ≡ comes_past cmp after q
  in_range None q = refl
  in_range (Some k) q = and_true _

  pub entry_after-range : {X : Type 0} (after : Option K) (es part : List (K × X)) (lo hi : Bound K) → lo ≡ start_past after → hi ≡ Unbounded → part ≡ entries_between cmp lo hi es → slice_get part 0 ≡ entry_after cmp after es
  entry_after-range {X} after es part lo hi l h p =
      ap (λ (r : List (K × X)). slice_get r 0) p ∙ (λ i. slice_get (entries_between cmp (l i) (h i) es) 0)
      ∙ (λ i. slice_get (filter (λ e. in_range after e.0 i) es) 0) ∙ sym (find-filter (λ e. comes_past cmp after e.0) es)

  pub key_after-range : (after : Option K) (ks part : List K) (lo hi : Bound K) → lo ≡ start_past after → hi ≡ Unbounded → part ≡ filter (range_contains cmp lo hi) ks → slice_get part 0 ≡ key_after cmp after ks
  key_after-range after ks part lo hi l h p =
      ap (λ (r : List K). slice_get r 0) p ∙ (λ i. slice_get (filter (range_contains cmp (l i) (h i)) ks) 0)
      ∙ (λ i. slice_get (filter (λ q. in_range after q i) ks) 0) ∙ sym (find-filter (comes_past cmp after) ks)
