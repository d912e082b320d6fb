-- Pools in order of their ids, and a binary search for one.
use Rattle.std.proofs.Common.{◌≡◌, ℕ, ◌+◌, ◌<◌, ◌≤◌, List, length, get_or, Bool, true, false, IsTrue, ◌↔◌, Some, None, Err, ap, sym, ◌∙◌, arith}
use Rattle.std.specs.declared.cmp.Ordering.TheVariants.{Equal}
use Rattle.std.specs.Ordering.{is_lt}
use Rattle.std.specs.List.{IsAllAdjacentAnswer}
use Rattle.std.specs.List.Sorted.{IsBinarySearchResult, IsSortedBy}
use Rattle.std.proofs.lemmas.List.{get_or-map, length-map}
use Rattle.std.proofs.lemmas.List.Sorted.{searchable_from_sorted}
use Rattle.gov_ids.specs.declared.PoolId.{PoolId}
use Rattle.gov_ids.specs.Orders.{pool_cmp}
use Rattle.gov_ids.proofs.Totals.{pool_total}
use Rattle.maps.specs.Maps.{IsMap, value_at}
use Rattle.maps.proofs.Searched.{sorted, told}
use Rattle.snapshots.specs.declared.frozen.FrozenPool.{FrozenPool}
use Rattle.snapshots.proofs.Searched.{found, missed}
use Rattle.tally.specs.Silent.{by_id}

-- a pool with its id
abbrev with_id : FrozenPool → PoolId × FrozenPool
with_id p = (p.pool, p)

module _ (ps : List FrozenPool) where
  as_long : length (by_id ps) ≡ length ps
  as_long = length-map ps with_id

  -- the pool at a place
  at_place : (i : ℕ) (d : PoolId × FrozenPool) → i < length ps → get_or (by_id ps) i d ≡ with_id (get_or ps i d.1)
  at_place i d lt = get_or-map with_id ps i d.1 d lt

  carried : (r : Bool) → IsAllAdjacentAnswer (λ (x y : FrozenPool) b. b ≡ is_lt (pool_cmp x.pool y.pool)) ps r
      → IsAllAdjacentAnswer (λ (x y : PoolId × FrozenPool) b. b ≡ is_lt (pool_cmp x.0 y.0)) (by_id ps) r
  carried true h = λ j d lt.
      let within : j + 1 < length ps = omega (arith, as_long, lt) in
      h j d.1 within ∙ (λ i. is_lt (pool_cmp (sym (at_place j d (omega arith)) i).0 (sym (at_place (j + 1) d within) i).0))
  carried false h =
      let within : h.0 + 1 < length ps = h.1 in
      (h.0, omega (arith, as_long, within), λ d. h.2 d.1 ∙ (λ i. is_lt (pool_cmp (sym (at_place h.0 d (omega arith)) i).0 (sym (at_place (h.0 + 1) d within) i).0)))

  -- a scan from each to the next finds whether they are in order
  pub told_by_id : (r : Bool) → IsAllAdjacentAnswer (λ (x y : FrozenPool) b. b ≡ is_lt (pool_cmp x.pool y.pool)) ps r → IsTrue r ↔ IsMap pool_cmp (by_id ps)
  told_by_id r h = told pool_total (by_id ps) r (carried r h)

  module _ (ordered : IsMap pool_cmp (by_id ps)) (id : PoolId) (i : ℕ) where
    pub found_by_id : (d : FrozenPool) → i < length ps → pool_cmp (get_or ps i d).pool id ≡ Equal → value_at pool_cmp (by_id ps) id ≡ Some (get_or ps i d)
    found_by_id d lt equal =
        let at = at_place i (with_id d) lt in
        found pool_total id (by_id ps) i (with_id d) ordered (omega (arith, as_long, lt)) (ap (λ (e : PoolId × FrozenPool). pool_cmp e.0 id) at ∙ equal) ∙ ap (λ (e : PoolId × FrozenPool). Some e.1) at

    rise : IsSortedBy (λ (x y : FrozenPool). is_lt (pool_cmp x.pool y.pool)) ps
    rise = λ j d low lt.
        (λ k. is_lt (pool_cmp (sym (at_place (j + 1) (with_id d) lt) k).0 (sym (at_place j (with_id d) (omega arith)) k).0))
        ∙ sorted pool_total (by_id ps) ordered j (with_id d) low (omega (arith, as_long, lt))

    pub missed_by_id : i ≤ length ps → IsBinarySearchResult (λ (p : FrozenPool). pool_cmp p.pool id) ps (Err i) → value_at pool_cmp (by_id ps) id ≡ None
    missed_by_id le h =
        let parts = h (searchable_from_sorted pool_total (λ (p : FrozenPool). p.pool) ps id rise) in
        missed pool_total id (by_id ps) i ordered (omega (arith, as_long, le)) (λ rising. (
          λ j d low lt. ap (λ (e : PoolId × FrozenPool). pool_cmp e.0 id) (at_place j d (omega (arith, lt, le))) ∙ parts.0 j d.1 low lt,
          λ j d low lt.
              let within : j < length ps = omega (arith, as_long, lt) in
              ap (λ (e : PoolId × FrozenPool). pool_cmp e.0 id) (at_place j d within) ∙ parts.1 j d.1 low within,
        ))
