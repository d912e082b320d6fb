-- The pools of mark are found in it, and so are the reward accounts of those that are registered.
use Rattle.std.proofs.Common.{◌≡◌, ℕ, ◌+◌, List, [], ◌∷◌, false, cond, Option, Some, None, filter_map, map, option_map, unwrap_or, refl, ap, sym, subst, ◌∙◌}
use Rattle.std.specs.declared.cmp.Ordering.{Ordering}
use Rattle.std.specs.declared.cmp.Ordering.TheVariants.{Less}
use Rattle.std.specs.Ordering.{eq_by_cmp, is_eq}
use Rattle.std.specs.Cmp.{IsTotalOrder}
use Rattle.std.specs.List.{AllByRecursion, cons_option}
use Rattle.std.specs.List.Sorted.{IsStrictlySortedBy}
use Rattle.std.specs.Map.{keys_of}
use Rattle.std.proofs.lemmas.Cmp.{eq_by_cmp_equiv}
use Rattle.maps.proofs.Lookups.{none_below}
use Rattle.maps.proofs.Same.{value_at_first}
use Rattle.maps.specs.Maps.{IsMap, value_at}
use Rattle.maps.specs.Words.{amount}
use Rattle.gov_ids.specs.declared.Account.{Account}
use Rattle.gov_ids.specs.declared.PoolId.{PoolId}
use Rattle.gov_ids.specs.Orders.{pool_cmp}
use Rattle.gov_ids.proofs.Totals.{pool_total}
use Rattle.book_records.specs.declared.pool.Pool.{Pool}
use Rattle.gov_model.specs.Sides.{default_of_delegation}
use Rattle.gov_model.specs.Snapshot.{Snapshot}
use Rattle.snapshots.specs.Frozen.{frozen_pool}
use Rattle.freeze.specs.Deposits.{paid_with}
use Rattle.freeze.specs.Laws.{PoolsAreFrozen}
use Rattle.freeze.specs.Pools.{delegation_of, pool_by, reward_account}

module _ {K X Y Z : Type 0} {cmp : K → K → Ordering} (o : IsTotalOrder cmp) (f : Z → Y) (g : K × X → Option Z) where
  not_first : (k q : K) → cmp k q ≡ Less → eq_by_cmp cmp q k ≡ false
  not_first k q less = (eq_by_cmp_equiv o).symm q k ∙ ap is_eq less

  found_later : (e : K × X) (es ms : List (K × X)) → AllByRecursion (λ q. cmp e.0 q ≡ Less) (keys_of ms) → AllByRecursion (λ (m : K × X). value_at cmp es m.0 ≡ Some m.1) ms
      → AllByRecursion (λ (m : K × X). value_at cmp (e ∷ es) m.0 ≡ Some m.1) ms
  found_later e es [] a h = tt
  found_later e es (m ∷ ms) a h = (ap (λ b. cond b (Some e.1) (value_at cmp es m.0)) (not_first e.0 m.0 a.0) ∙ h.0, found_later e es ms a.1 h.1)

  -- each entry of a map is found in it
  pub each_found : (es : List (K × X)) → IsMap cmp es → AllByRecursion (λ (m : K × X). value_at cmp es m.0 ≡ Some m.1) es
  unfolding IsStrictlySortedBy
  each_found [] h = tt
  each_found (e ∷ es) h = (value_at_first o e es, found_later e es es h.0 (each_found es h.1))

  abbrev pub chosen : List (K × X) → List (K × Y)
  chosen es = filter_map (λ (e : K × X). option_map (λ (z : Z). (e.0, f z)) (g e)) es

  all_chosen : (P : K → Type 0) (es : List (K × X)) → AllByRecursion P (keys_of es) → AllByRecursion P (keys_of (chosen es))
  all_chosen P [] h = tt
  all_chosen P (e ∷ es) h = elim (g e) as (λ (z : Option Z). AllByRecursion P (keys_of (cons_option (option_map (λ (x : Z). (e.0, f x)) z) (chosen es)))) [
    | None ↦ all_chosen P es h.1
    | Some z ↦ (h.0, all_chosen P es h.1)
  ]

  chosen_first : (e : K × X) (es : List (K × X)) → AllByRecursion (λ q. cmp e.0 q ≡ Less) (keys_of es) → (z : Option Z) → value_at cmp (cons_option (option_map (λ (x : Z). (e.0, f x)) z) (chosen es)) e.0 ≡ option_map f z
  chosen_first e es a None = none_below cmp e.0 (chosen es) (all_chosen (λ q. cmp e.0 q ≡ Less) es a)
  chosen_first e es a (Some z) = value_at_first o (e.0, f z) (chosen es)

  chosen_past : (e m : K × X) (es : List (K × X)) → cmp e.0 m.0 ≡ Less → (z : Option Z) → value_at cmp (cons_option (option_map (λ (x : Z). (e.0, f x)) z) (chosen es)) m.0 ≡ value_at cmp (chosen es) m.0
  chosen_past e m es less None = refl
  chosen_past e m es less (Some z) = ap (λ b. cond b (Some (f z)) (value_at cmp (chosen es) m.0)) (not_first e.0 m.0 less)

  chosen_later : (e : K × X) (es ms : List (K × X)) → AllByRecursion (λ q. cmp e.0 q ≡ Less) (keys_of ms) → AllByRecursion (λ (m : K × X). value_at cmp (chosen es) m.0 ≡ option_map f (g m)) ms
      → AllByRecursion (λ (m : K × X). value_at cmp (chosen (e ∷ es)) m.0 ≡ option_map f (g m)) ms
  chosen_later e es [] a h = tt
  chosen_later e es (m ∷ ms) a h = (chosen_past e m es a.0 (g e) ∙ h.0, chosen_later e es ms a.1 h.1)

  -- and what is made of it, if it is chosen
  pub each_chosen : (es : List (K × X)) → IsMap cmp es → AllByRecursion (λ (m : K × X). value_at cmp (chosen es) m.0 ≡ option_map f (g m)) es
  unfolding IsStrictlySortedBy
  each_chosen [] h = tt
  each_chosen (e ∷ es) h = (chosen_first e es h.0 (g e), chosen_later e es es h.0 (each_chosen es h.1))

-- a pool of mark, where it is found there with its reward account
module _ (s : Snapshot) (pools : List (PoolId × Pool)) (deposits : List (PoolId × ℕ)) (paid : (p : PoolId) → unwrap_or (value_at pool_cmp deposits p) 0 ≡ paid_with s.entries s.proposals p) where
  one_pool : (m : PoolId × ℕ) → value_at pool_cmp s.mark m.0 ≡ Some m.1 → value_at pool_cmp s.pool_accounts m.0 ≡ reward_account pools m.0 → pool_by pools s.entries deposits m ≡ frozen_pool s m.0
  one_pool m found account = λ i. record {
    pool = m.0;
    account = sym account i;
    stake = amount (λ (n : ℕ). n) (sym found i) + paid m.0 i;
    default_vote = default_of_delegation (delegation_of s.entries (sym account i));
  }

  all_pools : (ms : List (PoolId × ℕ)) → AllByRecursion (λ (m : PoolId × ℕ). value_at pool_cmp s.mark m.0 ≡ Some m.1) ms → AllByRecursion (λ (m : PoolId × ℕ). value_at pool_cmp s.pool_accounts m.0 ≡ reward_account pools m.0) ms
      → map (pool_by pools s.entries deposits) ms ≡ map (λ (m : PoolId × ℕ). frozen_pool s m.0) ms
  all_pools [] f a = refl
  all_pools (m ∷ ms) f a = λ i. one_pool m f.0 a.0 i ∷ all_pools ms f.1 a.1 i

pub pools_are_frozen : PoolsAreFrozen
pools_are_frozen s pools deposits h accounts paid =
    let at : PoolId × ℕ → Option Pool = λ m. value_at pool_cmp pools m.0 in
    let account : Pool → Account = λ p. p.terms.account in
    all_pools s pools deposits paid s.mark (each_found pool_total account at s.mark h)
    (subst (λ (l : List (PoolId × Account)). AllByRecursion (λ (m : PoolId × ℕ). value_at pool_cmp l m.0 ≡ reward_account pools m.0) s.mark) (sym accounts) (each_chosen pool_total account at s.mark h))
