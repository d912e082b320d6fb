-- A walk over what has not changed and what is kept goes over the frozen list.
use Rattle.std.proofs.Common.{◌≡◌, ℕ, List, [], ◌∷◌, Bool, true, false, cond, filter, Option, Some, None, option_map, slice_get, refl, ap, sym, ◌∙◌}
use Rattle.std.specs.declared.cmp.Ordering.{Ordering}
use Rattle.std.specs.declared.ops.Bound.{Bound}
use Rattle.std.specs.declared.ops.Bound.TheVariants.{Unbounded}
use Rattle.std.specs.BTreeMap.Range.{entries_between}
use Rattle.std.specs.Ordering.{is_lt, eq_by_cmp, ordering_reverse}
use Rattle.std.specs.Cmp.{IsTotalOrder}
use Rattle.std.specs.Option.{option_or}
use Rattle.maps.proofs.Kept.{IsMap-filter}
use Rattle.maps.proofs.Next.{in_range}
use Rattle.maps.proofs.Ties.{is_equal}
use Rattle.maps.specs.Maps.{IsMap, comes_past, start_past, entry_after}
use Rattle.view_map.specs.Marks.{unchanged_in, values_in}
use Rattle.view_map.specs.View.{entry_at}
use Rattle.view_map.specs.Walk.{entries_past, merged}
use Rattle.view_map.proofs.Entries.{map_from_entry_at}
use Rattle.view_map.proofs.Marks.{part, entry_at-unchanged, IsMap-unchanged}
use Rattle.view_map.proofs.Merged.{IsMap-merged, entry_at-merged}

module _ {K X : Type 0} (cmp : K → K → Ordering) (after : Option K) where
  pub past_range : (es part : List (K × X)) (lo hi : Bound K) → lo ≡ start_past after → hi ≡ Unbounded → part ≡ entries_between cmp lo hi es → part ≡ entries_past cmp after es
  past_range es part lo hi l h p = p ∙ (λ i. entries_between cmp (l i) (h i) es) ∙ (λ i. filter (λ e. in_range cmp after e.0 i) es)

  pub first_past : (es : List (K × X)) → entry_after cmp after es ≡ slice_get (entries_past cmp after es) 0
  first_past [] = refl
  first_past (e ∷ es) =
      elim (comes_past cmp after e.0) as (λ b. cond b (Some e) (entry_after cmp after es) ≡ slice_get (cond b (e ∷ entries_past cmp after es) (entries_past cmp after es)) 0) [ true ↦ refl | false ↦ first_past es ]

module _ {K V : Type 0} (cmp : K → K → Ordering) (after : Option K) where
  pub entry_after-values : (es : List (K × (V × ℕ))) → entry_after cmp after (values_in es) ≡ option_map (λ (e : K × (V × ℕ)). (e.0, e.1.0)) (entry_after cmp after es)
  entry_after-values [] = refl
  entry_after-values (e ∷ es) =
      elim (comes_past cmp after e.0) as (λ b. cond b (Some (e.0, e.1.0)) (entry_after cmp after (values_in es)) ≡ option_map (λ (e : K × (V × ℕ)). (e.0, e.1.0)) (cond b (Some e) (entry_after cmp after es))) [ true ↦ refl | false ↦ entry_after-values es ]

module _ {K : Type 0} {cmp : K → K → Ordering} (o : IsTotalOrder cmp) where
  past_tied : (after : Option K) (q e : K) → eq_by_cmp cmp q e ≡ true → comes_past cmp after q ≡ comes_past cmp after e
  past_tied None q e t = refl
  past_tied (Some k) q e t = ap is_lt (o.antisymm k q ∙ ap ordering_reverse (o.congr q e k (is_equal _ t)) ∙ sym (o.antisymm k e))

module _ {K : Type 0} {cmp : K → K → Ordering} (o : IsTotalOrder cmp) (after : Option K) where
  module _ {X : Type 0} where
    entry_at-past : (es : List (K × X)) (q : K) → entry_at cmp (entries_past cmp after es) q ≡ cond (comes_past cmp after q) (entry_at cmp es q) None
    entry_at-past [] q = elim (comes_past cmp after q) as (λ b. ◌≡◌ {A = Option (K × X)} None (cond b None None)) [ true ↦ refl | false ↦ refl ]
    entry_at-past (e ∷ es) q =
        let rest : List (K × X) = entries_past cmp after es in
        elim (comes_past cmp after e.0) as (λ b. comes_past cmp after e.0 ≡ b → entry_at cmp (cond b (e ∷ rest) rest) q ≡ cond (comes_past cmp after q) (entry_at cmp (e ∷ es) q) None) [
          | true ↦ λ p.
              elim (eq_by_cmp cmp q e.0) as (λ t. eq_by_cmp cmp q e.0 ≡ t → cond t (Some e) (entry_at cmp rest q) ≡ cond (comes_past cmp after q) (cond t (Some e) (entry_at cmp es q)) None) [
                | true ↦ λ t. ap (λ b. cond b (Some e) None) (sym (past_tied o after q e.0 t ∙ p))
                | false ↦ λ t. entry_at-past es q
              ] refl
          | false ↦ λ p.
              elim (eq_by_cmp cmp q e.0) as (λ t. eq_by_cmp cmp q e.0 ≡ t → entry_at cmp rest q ≡ cond (comes_past cmp after q) (cond t (Some e) (entry_at cmp es q)) None) [
                | true ↦ λ t. let not_past : comes_past cmp after q ≡ false = past_tied o after q e.0 t ∙ p in
                    entry_at-past es q ∙ ap (λ b. cond b (entry_at cmp es q) None) not_past ∙ sym (ap (λ b. cond b (Some e) None) not_past)
                | false ↦ λ t. entry_at-past es q
              ] refl
        ] refl

  module _ {V : Type 0} where
    both : (b : Bool) (s l : Option (K × V)) → option_or (cond b s None) (cond b l None) ≡ cond b (option_or s l) None
    both true s l = refl
    both false s l = refl

    part_past : (mark : ℕ) (b : Bool) (x : Option (K × (V × ℕ))) → part mark (cond b x None) ≡ cond b (part mark x) None
    part_past mark true x = refl
    part_past mark false x = refl

    -- a walk over what comes past a key in both goes over what comes past it in the frozen list
    pub frozen_past : (mark : ℕ) (live : List (K × (V × ℕ))) (kept : List (K × V)) → IsMap cmp live → IsMap cmp kept
        → merged cmp (entries_past cmp after kept) (unchanged_in mark (entries_past cmp after live)) ≡ entries_past cmp after (merged cmp kept (unchanged_in mark live))
    frozen_past mark live kept h g =
        let some : IsMap cmp (entries_past cmp after live) = IsMap-filter cmp (λ (e : K × (V × ℕ)). comes_past cmp after e.0) live h in
        let few : IsMap cmp (entries_past cmp after kept) = IsMap-filter cmp (λ (e : K × V). comes_past cmp after e.0) kept g in
        let u : IsMap cmp (unchanged_in mark live) = IsMap-unchanged cmp mark live h in
        let v : IsMap cmp (unchanged_in mark (entries_past cmp after live)) = IsMap-unchanged cmp mark (entries_past cmp after live) some in
        let all : IsMap cmp (merged cmp kept (unchanged_in mark live)) = IsMap-merged o kept (unchanged_in mark live) g u in
        map_from_entry_at o _ _ (IsMap-merged o _ _ few v) (IsMap-filter cmp (λ (e : K × V). comes_past cmp after e.0) (merged cmp kept (unchanged_in mark live)) all) (λ q.
        entry_at-merged o _ _ q few v
        ∙ ap (λ (s : Option (K × V)). option_or s (entry_at cmp (unchanged_in mark (entries_past cmp after live)) q)) (entry_at-past kept q)
        ∙ ap (λ (l : Option (K × V)). option_or (cond (comes_past cmp after q) (entry_at cmp kept q) None) l) (
        entry_at-unchanged o mark _ q some ∙ ap (λ (x : Option (K × (V × ℕ))). part mark x) (entry_at-past live q)
        ∙ part_past mark (comes_past cmp after q) (entry_at cmp live q)
        ∙ ap (λ (r : Option (K × V)). cond (comes_past cmp after q) r None) (sym (entry_at-unchanged o mark live q h)))
        ∙ both (comes_past cmp after q) (entry_at cmp kept q) (entry_at cmp (unchanged_in mark live) q)
        ∙ ap (λ (r : Option (K × V)). cond (comes_past cmp after q) r None) (sym (entry_at-merged o kept (unchanged_in mark live) q g u))
        ∙ sym (entry_at-past (merged cmp kept (unchanged_in mark live)) q))
