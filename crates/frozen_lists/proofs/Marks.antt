-- Each pool of mark is found in it, so the pools are those of the snapshot.
use Rattle.std.proofs.Common.{◌≡◌, ℕ, ◌+◌, List, [], ◌∷◌, cond, Some, map, unwrap_or, refl, ap, subst, sym, ◌∙◌}
use Rattle.std.specs.declared.cmp.Ordering.{Ordering}
use Rattle.std.specs.declared.cmp.Ordering.TheVariants.{Less}
use Rattle.std.specs.Ordering.{is_eq}
use Rattle.std.specs.Cmp.{IsTotalOrder}
use Rattle.std.specs.List.{AllByRecursion}
use Rattle.std.specs.List.Sorted.{IsStrictlySortedBy}
use Rattle.std.specs.Map.{keys_of}
use Rattle.std.proofs.lemmas.Cmp.{eq_by_cmp_equiv}
use Rattle.maps.proofs.Same.{value_at_first}
use Rattle.maps.specs.Maps.{IsMap, value_at}
use Rattle.maps.specs.Words.{amount}
use Rattle.gov_ids.specs.declared.Account.{Account}
use Rattle.gov_ids.specs.declared.Credential.{Credential}
use Rattle.gov_ids.specs.declared.PoolId.{PoolId}
use Rattle.gov_ids.specs.Orders.{pool_cmp}
use Rattle.gov_ids.proofs.Totals.{pool_total}
use Rattle.book_records.specs.declared.Entry.{Entry}
use Rattle.gov_actions.specs.declared.action.Proposal.{Proposal}
use Rattle.gov_model.specs.Snapshot.{Snapshot}
use Rattle.snapshots.specs.Frozen.{frozen_copy_of, frozen_pool}
use Rattle.frozen_lists.specs.Pools.{paid_with, pool_by}

module _ {K X : Type 0} {cmp : K → K → Ordering} (o : IsTotalOrder cmp) where
  found_later : (e : K × X) (es ms : List (K × X)) → AllByRecursion (λ q. cmp e.0 q ≡ Less) (keys_of ms) → AllByRecursion (λ (m : K × X). value_at cmp es m.0 ≡ Some m.1) ms
      → AllByRecursion (λ (m : K × X). value_at cmp (e ∷ es) m.0 ≡ Some m.1) ms
  found_later e es [] a h = tt
  found_later e es (m ∷ ms) a h =
      (ap (λ b. cond b (Some e.1) (value_at cmp es m.0)) ((eq_by_cmp_equiv o).symm m.0 e.0 ∙ ap is_eq a.0) ∙ h.0, found_later e es ms a.1 h.1)

  -- each entry of a map is found in it
  pub each_found : (es : List (K × X)) → IsMap cmp es → AllByRecursion (λ (m : K × X). value_at cmp es m.0 ≡ Some m.1) es
  unfolding IsStrictlySortedBy
  each_found [] h = tt
  each_found (e ∷ es) h = (value_at_first o e es, found_later e es es h.0 (each_found es h.1))

module _ (s : Snapshot) (deposits : List (PoolId × ℕ)) (paid : (p : PoolId) → unwrap_or (value_at pool_cmp deposits p) 0 ≡ paid_with s.entries s.proposals p) where
  one_pool : (m : PoolId × ℕ) → value_at pool_cmp s.mark m.0 ≡ Some m.1 → pool_by s.entries s.pool_accounts deposits m ≡ frozen_pool s m.0
  one_pool m found = λ i. record (frozen_pool s m.0) { stake = amount (λ (n : ℕ). n) (sym found i) + paid m.0 i }

  all_pools : (ms : List (PoolId × ℕ)) → AllByRecursion (λ (m : PoolId × ℕ). value_at pool_cmp s.mark m.0 ≡ Some m.1) ms
      → map (pool_by s.entries s.pool_accounts deposits) ms ≡ map (λ (m : PoolId × ℕ). frozen_pool s m.0) ms
  all_pools [] f = refl
  all_pools (m ∷ ms) f = λ i. one_pool m f.0 i ∷ all_pools ms f.1 i

  -- the pools are those that the snapshot freezes
  pub pools_are_frozen : IsMap pool_cmp s.mark → map (pool_by s.entries s.pool_accounts deposits) s.mark ≡ (frozen_copy_of s).pools
  pools_are_frozen h = all_pools s.mark (each_found pool_total s.mark h)

-- what is made of these lists is frozen of each snapshot that has them
pub frozen_by : (entries : List (Credential × Entry)) (mark : List (PoolId × ℕ)) (accounts : List (PoolId × Account)) (proposals : List Proposal) (deposits : List (PoolId × ℕ))
    → IsMap pool_cmp mark → ((p : PoolId) → unwrap_or (value_at pool_cmp deposits p) 0 ≡ paid_with entries proposals p)
    → (s : Snapshot) → s.entries ≡ entries → s.mark ≡ mark → s.pool_accounts ≡ accounts → s.proposals ≡ proposals → map (pool_by entries accounts deposits) mark ≡ (frozen_copy_of s).pools
frozen_by entries mark accounts proposals deposits ordered paid s he hm ha hp =
    (λ i. map (pool_by (sym he i) (sym ha i) deposits) (sym hm i))
    ∙ pools_are_frozen s deposits (λ p. paid p ∙ (λ i. paid_with (sym he i) (sym hp i) p)) (subst (λ (m : List (PoolId × ℕ)). IsMap pool_cmp m) (sym hm) ordered)
