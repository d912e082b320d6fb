-- The reward accounts of the frozen pools are those that were frozen.
use Rattle.std.proofs.Common.{◌≡◌, ℕ, Bool, true, false, cond, List, [], ◌∷◌, filter_map, map, option_map, Option, Some, None, is_some, refl, ap, sym, ◌∙◌}
use Rattle.std.specs.declared.cmp.Ordering.TheVariants.{Less}
use Rattle.std.specs.List.{AllByRecursion, cons_option, list_all}
use Rattle.std.specs.List.Sorted.{IsStrictlySortedBy}
use Rattle.std.specs.Map.{keys_of}
use Rattle.std.specs.Ordering.{eq_by_cmp}
use Rattle.std.proofs.lemmas.Bool.{and_parts}
use Rattle.epoch_start.specs.Begun.{accounts_of_pools}
use Rattle.gov_ids.specs.declared.Account.{Account}
use Rattle.gov_ids.specs.declared.PoolId.{PoolId}
use Rattle.gov_ids.specs.Orders.{pool_cmp}
use Rattle.gov_ids.proofs.Exacts.{pool_exact}
use Rattle.gov_ids.proofs.Totals.{pool_total}
use Rattle.gov_model.specs.Snapshot.{Snapshot}
use Rattle.maps.proofs.Lookups.{none_below}
use Rattle.maps.proofs.Same.{map_from_value_at}
use Rattle.maps.proofs.Ties.{all_tied, is_equal, same_key}
use Rattle.maps.specs.Maps.{IsMap, has_key, value_at}
use Rattle.snapshots.specs.Frozen.{frozen_copy_of, frozen_pool}

-- the reward accounts of the pools of mark that have one
abbrev kept : List (PoolId × Account) → List (PoolId × ℕ) → List (PoolId × Account)
kept accounts ms = filter_map (λ (m : PoolId × ℕ). option_map (λ (a : Account). (m.0, a)) (value_at pool_cmp accounts m.0)) ms

are_kept : (s : Snapshot) (ms : List (PoolId × ℕ)) → accounts_of_pools (map (λ (m : PoolId × ℕ). frozen_pool s m.0) ms) ≡ kept s.pool_accounts ms
are_kept s [] = refl
are_kept s (m ∷ ms) = ap (λ (l : List (PoolId × Account)). cons_option (option_map (λ (a : Account). (m.0, a)) (value_at pool_cmp s.pool_accounts m.0)) l) (are_kept s ms)

-- what holds of each pool of mark holds of each that is kept
all_kept : (P : PoolId → Type 0) (accounts : List (PoolId × Account)) (ms : List (PoolId × ℕ)) → AllByRecursion P (keys_of ms) → AllByRecursion P (keys_of (kept accounts ms))
all_kept P accounts [] h = tt
all_kept P accounts (m ∷ ms) h = elim (value_at pool_cmp accounts m.0) as (λ (o : Option Account). AllByRecursion P (keys_of (cons_option (option_map (λ (a : Account). (m.0, a)) o) (kept accounts ms)))) [
  | None ↦ all_kept P accounts ms h.1
  | Some a ↦ (h.0, all_kept P accounts ms h.1)
]

kept_by : (accounts : List (PoolId × Account)) (m : PoolId × ℕ) (rest : List (PoolId × Account)) → AllByRecursion (λ q. pool_cmp m.0 q ≡ Less) (keys_of rest) → IsMap pool_cmp rest → (o : Option Account)
    → IsMap pool_cmp (cons_option (option_map (λ (a : Account). (m.0, a)) o) rest)
unfolding IsStrictlySortedBy
kept_by accounts m rest above h None = h
kept_by accounts m rest above h (Some a) = (above, h)

IsMap-kept : (accounts : List (PoolId × Account)) (ms : List (PoolId × ℕ)) → IsMap pool_cmp ms → IsMap pool_cmp (kept accounts ms)
unfolding IsStrictlySortedBy
IsMap-kept accounts [] h = tt
IsMap-kept accounts (m ∷ ms) h = kept_by accounts m (kept accounts ms) (all_kept (λ q. pool_cmp m.0 q ≡ Less) accounts ms h.0) (IsMap-kept accounts ms h.1) (value_at pool_cmp accounts m.0)

-- the first of them, or another
first_by : (o : Option Account) (k q : PoolId) (rest : List (PoolId × Account)) (v : Option Account) → value_at pool_cmp rest q ≡ v → (eq_by_cmp pool_cmp q k ≡ true → v ≡ None)
    → value_at pool_cmp (cons_option (option_map (λ (a : Account). (k, a)) o) rest) q ≡ cond (eq_by_cmp pool_cmp q k) o v
first_by None k q rest v p n = p ∙ elim (eq_by_cmp pool_cmp q k) as (λ b. (b ≡ true → v ≡ None) → v ≡ cond b None v) [ true ↦ λ n. n refl | false ↦ λ n. refl ] n
first_by (Some a) k q rest v p n = ap (λ (x : Option Account). cond (eq_by_cmp pool_cmp q k) (Some a) x) p

joined : (accounts : List (PoolId × Account)) (k q : PoolId) (n : ℕ) (x : Option ℕ) (b : Bool) → eq_by_cmp pool_cmp q k ≡ b
    → cond b (value_at pool_cmp accounts k) (cond (is_some x) (value_at pool_cmp accounts q) None) ≡ cond (is_some (cond b (Some n) x)) (value_at pool_cmp accounts q) None
joined accounts k q n x true t = ap (λ (p : PoolId). value_at pool_cmp accounts p) (sym (same_key pool_exact q k t))
joined accounts k q n x false t = refl

absent_tied : (x : Option ℕ) (v : Option Account) → x ≡ None → cond (is_some x) v None ≡ None
absent_tied x v e = ap (λ (o : Option ℕ). cond (is_some o) v None) e

value_at-kept : (accounts : List (PoolId × Account)) (ms : List (PoolId × ℕ)) (q : PoolId) → IsMap pool_cmp ms → value_at pool_cmp (kept accounts ms) q ≡ cond (has_key pool_cmp ms q) (value_at pool_cmp accounts q) None
unfolding IsStrictlySortedBy
value_at-kept accounts [] q h = refl
value_at-kept accounts (m ∷ ms) q h =
    first_by (value_at pool_cmp accounts m.0) m.0 q (kept accounts ms) (cond (has_key pool_cmp ms q) (value_at pool_cmp accounts q) None) (value_at-kept accounts ms q h.1)
    (λ t. absent_tied (value_at pool_cmp ms q) (value_at pool_cmp accounts q) (none_below pool_cmp q ms (all_tied pool_total q m.0 (keys_of ms) (is_equal _ t) h.0)))
    ∙ joined accounts m.0 q m.1 (value_at pool_cmp ms q) (eq_by_cmp pool_cmp q m.0) refl

-- a pool with a reward account is one of mark
of_mark : (mark : List (PoolId × ℕ)) (accounts : List (PoolId × Account)) (q : PoolId) (a : Account) → list_all (λ p. has_key pool_cmp mark p.0) accounts ≡ true → value_at pool_cmp accounts q ≡ Some a → has_key pool_cmp mark q ≡ true
of_mark mark [] q a h e = cc
of_mark mark (p ∷ accounts) q a h e =
    let parts = and_parts (has_key pool_cmp mark p.0) (list_all (λ (p : PoolId × Account). has_key pool_cmp mark p.0) accounts) h in
    elim (eq_by_cmp pool_cmp q p.0) as (λ b. eq_by_cmp pool_cmp q p.0 ≡ b → cond b (Some p.1) (value_at pool_cmp accounts q) ≡ Some a → has_key pool_cmp mark q ≡ true) [
      | true ↦ λ t e. ap (λ (k : PoolId). has_key pool_cmp mark k) (same_key pool_exact q p.0 t) ∙ parts.0
      | false ↦ λ t e. of_mark mark accounts q a parts.1 e
    ] refl e

all_there : (b : Bool) (v : Option Account) → ((a : Account) → v ≡ Some a → b ≡ true) → cond b v None ≡ v
all_there b None h = elim b as (λ b. cond {A = Option Account} b None None ≡ None) [ true ↦ refl | false ↦ refl ]
all_there b (Some a) h = ap (λ b. cond b (Some a) None) (h a refl)

-- a snapshot's copy has its reward accounts, where these are of pools of mark
pub accounts_are : (s : Snapshot) → IsMap pool_cmp s.mark → IsMap pool_cmp s.pool_accounts → list_all (λ p. has_key pool_cmp s.mark p.0) s.pool_accounts ≡ true → accounts_of_pools (frozen_copy_of s).pools ≡ s.pool_accounts
accounts_are s h k all =
    are_kept s s.mark
    ∙ map_from_value_at pool_total pool_exact (kept s.pool_accounts s.mark) s.pool_accounts (IsMap-kept s.pool_accounts s.mark h) k
    (λ q. value_at-kept s.pool_accounts s.mark q h ∙ all_there (has_key pool_cmp s.mark q) (value_at pool_cmp s.pool_accounts q) (λ a e. of_mark s.mark s.pool_accounts q a all e))
