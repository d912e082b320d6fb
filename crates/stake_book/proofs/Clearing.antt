-- The values at some keys changed one after another.
use Rattle.std.proofs.Common.{◌≡◌, List, [], ◌∷◌, Bool, true, false, cond, fold, Some, None, refl, ap, sym, ◌∙◌}
use Rattle.std.specs.declared.cmp.Ordering.{Ordering}
use Rattle.std.specs.declared.cmp.Ordering.TheVariants.{Less, Equal, Greater}
use Rattle.std.specs.Ordering.{is_eq, match_ordering, ordering_reverse}
use Rattle.std.specs.Cmp.{IsTotalOrder}
use Rattle.std.specs.List.{AllByRecursion}
use Rattle.std.specs.List.Sorted.{IsStrictlySortedBy}
use Rattle.std.specs.Map.{keys_of}
use Rattle.std.proofs.lemmas.Cmp.{tied_itself}
use Rattle.maps.proofs.Kept.{all-filter}
use Rattle.maps.proofs.Lookups.{none_below}
use Rattle.maps.proofs.Placed.{changed_at_absent}
use Rattle.maps.proofs.Ties.{all_above, all_tied}
use Rattle.maps.specs.Maps.{IsMap, value_at, with_value, changed_at, each_value, entries_where}

module _ {K X : Type 0} {cmp : K → K → Ordering} (o : IsTotalOrder cmp) where
  -- a changed value that is put where the value stood
  pub with_value_there : (k : K) (f : X → X) (v : X) (es : List (K × X)) → IsMap cmp es → value_at cmp es k ≡ Some v → with_value cmp k (f v) es ≡ changed_at cmp k f es
  unfolding IsStrictlySortedBy
  with_value_there k f v [] h p = cc
  with_value_there k f v (e ∷ es) h p =
      elim (cmp k e.0) as (λ r. cmp k e.0 ≡ r → cond (is_eq r) (Some e.1) (value_at cmp es k) ≡ Some v
      → match_ordering r ((k, f v) ∷ e ∷ es) ((e.0, f v) ∷ es) (e ∷ with_value cmp k (f v) es) ≡ (e.0, cond (is_eq r) (f e.1) e.1) ∷ changed_at cmp k f es) [
        | Less ↦ λ r p. let none : value_at cmp es k ≡ None = none_below cmp k es (all_above o k e.0 (keys_of es) r h.0) in cc
        | Equal ↦ λ r p.
            let same : v ≡ e.1 = cc in
            let rest : changed_at cmp k f es ≡ es = changed_at_absent cmp k f es (none_below cmp k es (all_tied o k e.0 (keys_of es) r h.0)) in
            λ i. (e.0, f (same i)) ∷ sym rest i
        | Greater ↦ λ r p. ap (λ (l : List (K × X)). e ∷ l) (with_value_there k f v es h.1 p)
      ] refl p

  module _ (f : X → X) where
    abbrev pub changed_in_turn : List K → List (K × X) → List (K × X)
    changed_in_turn ks es = fold (λ es k. changed_at cmp k f es) es ks

    -- keys above the first one leave its entry
    above_first : (e : K × X) (ks : List K) (es : List (K × X)) → AllByRecursion (λ q. cmp e.0 q ≡ Less) ks → changed_in_turn ks (e ∷ es) ≡ e ∷ changed_in_turn ks es
    above_first e [] es h = refl
    above_first e (k ∷ ks) es h =
        let greater : cmp k e.0 ≡ Greater = o.antisymm k e.0 ∙ ap ordering_reverse h.0 in
        ap (λ r. changed_in_turn ks ((e.0, cond (is_eq r) (f e.1) e.1) ∷ changed_at cmp k f es)) greater ∙ above_first e ks (changed_at cmp k f es) h.1

    -- where the change keeps all values but those that pass, these changed in turn are all changed
    pub in_turn : (p : X → Bool) → ((x : X) → p x ≡ false → f x ≡ x) → (es : List (K × X)) → IsMap cmp es → changed_in_turn (keys_of (entries_where (λ k x. p x) es)) es ≡ each_value (λ k x. f x) es
    unfolding IsStrictlySortedBy
    in_turn p same [] h = refl
    in_turn p same (e ∷ es) h =
        let ks : List K = keys_of (entries_where (λ k x. p x) es) in
        let above : AllByRecursion (λ q. cmp e.0 q ≡ Less) ks = all-filter (λ q. cmp e.0 q ≡ Less) (λ (e : K × X). p e.1) es h.0 in
        let rest : changed_in_turn ks es ≡ each_value (λ k x. f x) es = in_turn p same es h.1 in
        elim (p e.1) as (λ b. p e.1 ≡ b → changed_in_turn (keys_of (cond b (e ∷ entries_where (λ k x. p x) es) (entries_where (λ k x. p x) es))) (e ∷ es) ≡ (e.0, f e.1) ∷ each_value (λ k x. f x) es) [
          | true ↦ λ t.
              let untouched : changed_at cmp e.0 f es ≡ es = changed_at_absent cmp e.0 f es (none_below cmp e.0 es h.0) in
              ap (λ r. changed_in_turn ks ((e.0, cond (is_eq r) (f e.1) e.1) ∷ changed_at cmp e.0 f es)) (tied_itself o e.0)
              ∙ ap (λ (l : List (K × X)). changed_in_turn ks ((e.0, f e.1) ∷ l)) untouched
              ∙ above_first (e.0, f e.1) ks es above
              ∙ ap (λ (l : List (K × X)). (e.0, f e.1) ∷ l) rest
          | false ↦ λ t. above_first e ks es above ∙ (λ i. (e.0, sym (same e.1 t) i) ∷ rest i)
        ] refl
