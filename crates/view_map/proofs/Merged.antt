-- The frozen list at each key, and that it is in order.
use Rattle.std.proofs.Common.{◌≡◌, List, [], ◌∷◌, Bool, true, false, cond, Option, Some, None, refl, ap, sym, ◌∙◌}
use Rattle.std.specs.declared.cmp.Ordering.{Ordering}
use Rattle.std.specs.declared.cmp.Ordering.TheVariants.{Less, Equal, Greater}
use Rattle.std.specs.Ordering.{is_eq, eq_by_cmp, match_ordering}
use Rattle.std.specs.Cmp.{IsTotalOrder}
use Rattle.std.specs.List.{AllByRecursion}
use Rattle.std.specs.List.Sorted.{IsStrictlySortedBy}
use Rattle.std.specs.Map.{keys_of}
use Rattle.std.specs.Option.{option_or}
use Rattle.std.proofs.lemmas.Cmp.{eq_by_cmp_equiv}
use Rattle.maps.proofs.Ties.{is_equal, tied, all_above, all_tied, turned}
use Rattle.maps.specs.Maps.{IsMap}
use Rattle.view_map.specs.View.{entry_at}
use Rattle.view_map.specs.Walk.{merged, merged_at}
use Rattle.view_map.proofs.Entries.{none_below}

first : {A : Type 0} (b : Bool) (p : A) (s l : Option A) → cond b (Some p) (option_or s l) ≡ option_or (cond b (Some p) s) l
first true p s l = refl
first false p s l = refl

in_place : {A : Type 0} (a b : Bool) (p e : A) (s l : Option A) → a ≡ b → cond a (Some p) (option_or s l) ≡ option_or (cond a (Some p) s) (cond b (Some e) l)
in_place true true p e s l h = refl
in_place true false p e s l h = refl
in_place false true p e s l h = cc
in_place false false p e s l h = refl

module _ {K V : Type 0} (cmp : K → K → Ordering) (k : K) where
  above_at : (p : K × V) (behind : List (K × V) → List (K × V)) → cmp k p.0 ≡ Less
      → ((es : List (K × V)) → AllByRecursion (λ q. cmp k q ≡ Less) (keys_of es) → AllByRecursion (λ q. cmp k q ≡ Less) (keys_of (behind es)))
      → (es : List (K × V)) → AllByRecursion (λ q. cmp k q ≡ Less) (keys_of es) → AllByRecursion (λ q. cmp k q ≡ Less) (keys_of (merged_at cmp p behind es))
  above_at p behind l ih [] h = (l, ih [] h)
  above_at p behind l ih (e ∷ es) h =
      elim (cmp e.0 p.0) as (λ r. AllByRecursion (λ q. cmp k q ≡ Less) (keys_of (match_ordering r (e ∷ merged_at cmp p behind es) (p ∷ behind es) (p ∷ behind (e ∷ es))))) [
        | Less ↦ (h.0, above_at p behind l ih es h.1)
        | Equal ↦ (l, ih es h.1)
        | Greater ↦ (l, ih (e ∷ es) h)
      ]

  above : (kept es : List (K × V)) → AllByRecursion (λ q. cmp k q ≡ Less) (keys_of kept) → AllByRecursion (λ q. cmp k q ≡ Less) (keys_of es) → AllByRecursion (λ q. cmp k q ≡ Less) (keys_of (merged cmp kept es))
  above [] es g h = h
  above (p ∷ kept) es g h = above_at p (merged cmp kept) g.0 (λ fs f. above kept fs g.1 f) es h

module _ {K V : Type 0} {cmp : K → K → Ordering} (o : IsTotalOrder cmp) where
  sorted_at : (p : K × V) (kept : List (K × V)) → AllByRecursion (λ q. cmp p.0 q ≡ Less) (keys_of kept) → ((es : List (K × V)) → IsMap cmp es → IsMap cmp (merged cmp kept es))
      → (es : List (K × V)) → IsMap cmp es → IsMap cmp (merged_at cmp p (merged cmp kept) es)
  unfolding IsStrictlySortedBy
  sorted_at p kept g ih [] h = (above cmp p.0 kept [] g tt, ih [] h)
  sorted_at p kept g ih (e ∷ es) h =
      elim (cmp e.0 p.0) as (λ r. cmp e.0 p.0 ≡ r → IsMap cmp (match_ordering r (e ∷ merged_at cmp p (merged cmp kept) es) (p ∷ merged cmp kept es) (p ∷ merged cmp kept (e ∷ es)))) [
        | Less ↦ λ l. (above cmp e.0 (p ∷ kept) es (l, all_above o e.0 p.0 (keys_of kept) l g) h.0, sorted_at p kept g ih es h.1)
        | Equal ↦ λ l. (above cmp p.0 kept es g (all_tied o p.0 e.0 (keys_of es) (turned o e.0 p.0 Equal l) h.0), ih es h.1)
        | Greater ↦ λ l. (above cmp p.0 kept (e ∷ es) g (turned o e.0 p.0 Greater l, all_above o p.0 e.0 (keys_of es) (turned o e.0 p.0 Greater l) h.0), ih (e ∷ es) h)
      ] refl

  pub IsMap-merged : (kept es : List (K × V)) → IsMap cmp kept → IsMap cmp es → IsMap cmp (merged cmp kept es)
  unfolding IsStrictlySortedBy
  IsMap-merged [] es g h = h
  IsMap-merged (p ∷ kept) es g h = sorted_at p kept g.0 (λ fs f. IsMap-merged kept fs g.1 f) es h

  at_kept : (p : K × V) (kept : List (K × V)) (q : K) → AllByRecursion (λ x. cmp p.0 x ≡ Less) (keys_of kept)
      → ((es : List (K × V)) → IsMap cmp es → entry_at cmp (merged cmp kept es) q ≡ option_or (entry_at cmp kept q) (entry_at cmp es q))
      → (es : List (K × V)) → IsMap cmp es → entry_at cmp (merged_at cmp p (merged cmp kept) es) q ≡ option_or (entry_at cmp (p ∷ kept) q) (entry_at cmp es q)
  unfolding IsStrictlySortedBy
  at_kept p kept q g ih [] h = ap (λ (r : Option (K × V)). cond (eq_by_cmp cmp q p.0) (Some p) r) (ih [] h) ∙ first (eq_by_cmp cmp q p.0) p (entry_at cmp kept q) None
  at_kept p kept q g ih (e ∷ es) h =
      elim (cmp e.0 p.0) as (λ r. cmp e.0 p.0 ≡ r → entry_at cmp (match_ordering r (e ∷ merged_at cmp p (merged cmp kept) es) (p ∷ merged cmp kept es) (p ∷ merged cmp kept (e ∷ es))) q ≡ option_or (entry_at cmp (p ∷ kept) q) (entry_at cmp (e ∷ es) q)) [
        | Less ↦ λ l.
            elim (eq_by_cmp cmp q e.0) as (λ b. eq_by_cmp cmp q e.0 ≡ b → cond b (Some e) (entry_at cmp (merged_at cmp p (merged cmp kept) es) q) ≡ option_or (entry_at cmp (p ∷ kept) q) (cond b (Some e) (entry_at cmp es q))) [
              | true ↦ λ t. ap (λ (s : Option (K × V)). option_or s (Some e)) (sym (none_below cmp q (p ∷ kept) (all_tied o q e.0 (keys_of (p ∷ kept)) (is_equal _ t) (l, all_above o e.0 p.0 (keys_of kept) l g))))
              | false ↦ λ t. at_kept p kept q g ih es h.1
            ] refl
        | Equal ↦ λ l.
            let same : eq_by_cmp cmp q p.0 ≡ eq_by_cmp cmp q e.0 = tied o e.0 p.0 q (ap is_eq l) ∙ (eq_by_cmp_equiv o).symm e.0 q in
            ap (λ (r : Option (K × V)). cond (eq_by_cmp cmp q p.0) (Some p) r) (ih es h.1) ∙ in_place (eq_by_cmp cmp q p.0) (eq_by_cmp cmp q e.0) p e (entry_at cmp kept q) (entry_at cmp es q) same
        | Greater ↦ λ l. ap (λ (r : Option (K × V)). cond (eq_by_cmp cmp q p.0) (Some p) r) (ih (e ∷ es) h) ∙ first (eq_by_cmp cmp q p.0) p (entry_at cmp kept q) (entry_at cmp (e ∷ es) q)
      ] refl

  pub entry_at-merged : (kept es : List (K × V)) (q : K) → IsMap cmp kept → IsMap cmp es → entry_at cmp (merged cmp kept es) q ≡ option_or (entry_at cmp kept q) (entry_at cmp es q)
  unfolding IsStrictlySortedBy
  entry_at-merged [] es q g h = refl
  entry_at-merged (p ∷ kept) es q g h = at_kept p kept q g.0 (λ fs f. entry_at-merged kept fs q g.1 f) es h
