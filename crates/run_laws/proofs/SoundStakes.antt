-- Output stakes and the stakes of pools are parts of what outputs and accounts hold, and what is frozen is a map.
use Rattle.std.proofs.Common.{◌≡◌, ℕ, ◌+◌, ◌≤◌, List, [], ◌∷◌, Bool, true, false, ◌||◌, ◌++◌, nat_lt, Option, Some, None, filter, filter_map, map, option_map, sum_by, refl, ap, sym, subst, ◌∙◌, arith}
use Rattle.std.specs.declared.cmp.Ordering.{Ordering}
use Rattle.std.specs.declared.cmp.Ordering.TheVariants.{Less}
use Rattle.std.specs.Ordering.{is_eq, eq_by_cmp}
use Rattle.std.specs.Cmp.{IsTotalOrder}
use Rattle.std.specs.List.{AllByRecursion, cons_option}
use Rattle.std.specs.List.Sorted.{IsStrictlySortedBy}
use Rattle.std.specs.Map.{keys_of}
use Rattle.std.proofs.lemmas.Cmp.{eq_by_cmp_equiv}
use Rattle.std.proofs.lemmas.List.Kept.{IsStrictlySortedBy-filter}
use Rattle.std.proofs.lemmas.Map.Keys.{IsDistinct-from_sorted}
use Rattle.maps.specs.Maps.{IsMap, IsSet, in_order, sum_values}
use Rattle.maps.specs.Words.{amount, holds}
use Rattle.maps.proofs.Credits.{sum_by-plus, sum_values-entries}
use Rattle.maps.proofs.Sets.{IsSet-in_order}
use Rattle.maps.proofs.Several.{sum_values-without_keys}
use Rattle.maps.proofs.Ties.{apart}
use Rattle.gov_ids.specs.declared.Credential.{Credential}
use Rattle.gov_ids.specs.declared.OutRef.{OutRef}
use Rattle.gov_ids.specs.declared.PoolId.{PoolId}
use Rattle.gov_ids.specs.Orders.{credential_cmp, pool_cmp}
use Rattle.gov_ids.proofs.Exacts.{credential_exact}
use Rattle.gov_ids.proofs.Totals.{credential_total, pool_total}
use Rattle.book_records.specs.Outputs.{lovelace_in}
use Rattle.book_records.specs.declared.Output.{Output}
use Rattle.book_records.specs.declared.Registered.{Registered}
use Rattle.book_records.specs.declared.pool.Pool.{Pool}
use Rattle.ledger_model.proofs.SameSums.{sum_by-map, sum_by-same}
use Rattle.ledger_model.specs.Ledger.{Ledger, account_at, is_account, live_pool_stake, output_stake}
use Rattle.run_model.specs.Boundary.{pool_stakes}
use Rattle.run_model.specs.Freeze.{entries_of, frozen_credentials, stake_parts}
use Rattle.run_model.specs.SoundWorld.{AreSoundStakes, held_by}
use Rattle.run_laws.proofs.Parted.{AreApart, Excludes, part, parts_within}

-- parts of a list by keys, where no item is in the parts of two
module _ {A K : Type 0} (cmp : K → K → Ordering) (f : A → ℕ) (at : K → A → Bool) (excludes : (k q : K) → eq_by_cmp cmp k q ≡ false → (x : A) → at q x ≡ true → at k x ≡ false) where
  each_excluded : (k : K) (ks : List K) → AllByRecursion (λ q. cmp k q ≡ Less) ks → AllByRecursion (Excludes f at k) ks
  each_excluded k [] h = tt
  each_excluded k (q ∷ ks) h = (excludes k q (ap is_eq h.0), each_excluded k ks h.1)

  all_apart : (ks : List K) → IsSet cmp ks → AreApart f at ks
  unfolding IsStrictlySortedBy
  all_apart [] h = tt
  all_apart (k ∷ ks) h = (each_excluded k ks h.0, all_apart ks h.1)

  pub sorted_within : (ks : List K) → IsSet cmp ks → (xs : List A) → sum_by (part f at xs) ks ≤ sum_by f xs
  sorted_within ks h xs = parts_within f at ks (all_apart ks h) xs

-- items by a key that they have or have not
pub other_key : {K : Type 0} {cmp : K → K → Ordering} (o : IsTotalOrder cmp) (k q : K) → eq_by_cmp cmp k q ≡ false → (found : Option K) → holds (eq_by_cmp cmp) found q ≡ true → holds (eq_by_cmp cmp) found k ≡ false
other_key o k q e None h = refl
other_key o k q e (Some y) h = apart o q k y ((eq_by_cmp_equiv o).symm q k ∙ e) ((eq_by_cmp_equiv o).symm q y ∙ h)

module _ {A K : Type 0} {cmp : K → K → Ordering} (o : IsTotalOrder cmp) (f : A → ℕ) (key : A → Option K) where
  abbrev pub at : K → A → Bool
  at k x = holds (eq_by_cmp cmp) (key x) k

  pub keyed_within : (ks : List K) → IsSet cmp ks → (xs : List A) → sum_by (part f at xs) ks ≤ sum_by f xs
  keyed_within ks h xs = sorted_within cmp f at (λ k q e x t. other_key o k q e (key x) t) ks h xs

-- the output stakes of credentials are within what outputs hold
pub stakes_within : (l : Ledger) (cs : List Credential) → IsSet credential_cmp cs → sum_by (output_stake l) cs ≤ lovelace_in l.outputs
stakes_within l cs h =
    let f : OutRef × Output → ℕ = λ e. e.1.lovelace in
    let key : OutRef × Output → Option Credential = λ e. e.1.address.stake in
    omega (
      arith,
      sum_by-same (output_stake l) (part f (at credential_total f key) l.outputs) (λ c. sum_values-entries (λ (x : Output). x.lovelace) (filter (at credential_total f key c) l.outputs)) cs,
      keyed_within credential_total f key cs h l.outputs,
      sum_values-entries (λ (x : Output). x.lovelace) l.outputs,
    )

-- what an account brings to its pool
abbrev brought : Ledger → Credential × Registered → ℕ
brought l a = output_stake l a.0 + a.1.rewards

-- all of them are within what outputs and reward balances hold
brought_within : (l : Ledger) → IsMap credential_cmp l.accounts → sum_by (brought l) l.accounts ≤ lovelace_in l.outputs + sum_values (λ (r : Registered). r.rewards) l.accounts
brought_within l h =
    omega (
      arith,
      sum_by-plus (λ (a : Credential × Registered). output_stake l a.0) (λ (a : Credential × Registered). a.1.rewards) l.accounts,
      sum_by-map (output_stake l) (λ (a : Credential × Registered). a.0) l.accounts,
      sum_values-entries (λ (r : Registered). r.rewards) l.accounts,
      stakes_within l (keys_of l.accounts) h,
    )

-- a list made of the keys of a map is a map
keys_made : {K X Y : Type 0} (g : K × X → Y) (es : List (K × X)) → keys_of (map (λ (e : K × X). (e.0, g e)) es) ≡ keys_of es
keys_made g [] = refl
keys_made {K} g (e ∷ es) = ap (λ (l : List K). e.0 ∷ l) (keys_made g es)

pub IsMap-made : {K X Y : Type 0} (cmp : K → K → Ordering) (g : K × X → Y) (es : List (K × X)) → IsMap cmp es → IsMap cmp (map (λ (e : K × X). (e.0, g e)) es)
IsMap-made {K} cmp g es h = subst (λ (ks : List K). IsSet cmp ks) (sym (keys_made g es)) h

-- and so is one made of some of its entries
module _ {K X Y Z : Type 0} (cmp : K → K → Ordering) (f : Z → Y) (g : K × X → Option Z) where
  abbrev chosen : List (K × X) → List (K × Y)
  chosen es = filter_map (λ (e : K × X). option_map (λ (z : Z). (e.0, f z)) (g e)) es

  all_chosen : (P : K → Type 0) (es : List (K × X)) → AllByRecursion P (keys_of es) → AllByRecursion P (keys_of (chosen es))
  all_chosen P [] h = tt
  all_chosen P (e ∷ es) h = elim (g e) as (λ (z : Option Z). AllByRecursion P (keys_of (cons_option (option_map (λ (x : Z). (e.0, f x)) z) (chosen es)))) [
    | None ↦ all_chosen P es h.1
    | Some z ↦ (h.0, all_chosen P es h.1)
  ]

  pub IsMap-chosen : (es : List (K × X)) → IsMap cmp es → IsMap cmp (chosen es)
  unfolding IsStrictlySortedBy
  IsMap-chosen [] h = tt
  IsMap-chosen (e ∷ es) h = elim (g e) as (λ (z : Option Z). IsMap cmp (cons_option (option_map (λ (x : Z). (e.0, f x)) z) (chosen es))) [
    | None ↦ IsMap-chosen es h.1
    | Some z ↦ (all_chosen (λ q. cmp e.0 q ≡ Less) es h.0, IsMap-chosen es h.1)
  ]

-- the stakes of the registered pools
pub pools_sound : (s : ℕ) (l : Ledger) → IsMap pool_cmp l.pools → IsMap credential_cmp l.accounts
    → lovelace_in l.outputs + sum_values (λ (r : Registered). r.rewards) l.accounts ≤ s → AreSoundStakes s (pool_stakes l)
pools_sound s l pools accounts bound = record {
  pools = IsMap-made pool_cmp (λ (e : PoolId × Pool). live_pool_stake l e.0) l.pools pools;
  sum = omega (
    arith,
    bound,
    brought_within l accounts,
    keyed_within pool_total (brought l) (λ (a : Credential × Registered). a.1.pool) (keys_of l.pools) pools l.accounts,
    sum_values-entries (λ (n : ℕ). n) (pool_stakes l),
    sum_by-map (λ (e : PoolId × ℕ). e.1) (λ (e : PoolId × Pool). (e.0, live_pool_stake l e.0)) l.pools,
    sum_by-map (live_pool_stake l) (λ (e : PoolId × Pool). e.0) l.pools,
  );
}

-- the frozen entries
keys_paired : {X : Type 0} (g : Credential → X) (cs : List Credential) → keys_of (map (λ (c : Credential). (c, g c)) cs) ≡ cs
keys_paired g [] = refl
keys_paired g (c ∷ cs) = ap (λ (l : List Credential). c ∷ l) (keys_paired g cs)

credentials_ordered : (l : Ledger) → IsSet credential_cmp (frozen_credentials l)
credentials_ordered l =
    let all : List Credential = map (λ (e : Credential × Registered). e.0) l.accounts ++ stake_parts l in
    IsStrictlySortedBy-filter credential_cmp (λ c. is_account l c || nat_lt 0 (output_stake l c)) (in_order credential_cmp all) (IsSet-in_order credential_total all)

pub entries_sound : (l : Ledger) → IsMap credential_cmp (entries_of l)
entries_sound l = subst (λ (cs : List Credential). IsSet credential_cmp cs) (sym (keys_paired _ (frozen_credentials l))) (credentials_ordered l)

pub entries_within : (l : Ledger) → IsMap credential_cmp l.accounts → sum_values held_by (entries_of l) ≤ lovelace_in l.outputs + sum_values (λ (r : Registered). r.rewards) l.accounts
entries_within l accounts =
    let cs : List Credential = frozen_credentials l in
    let balance : Credential → ℕ = λ c. amount (λ (r : Registered). r.rewards) (account_at l c) in
    omega (
      arith,
      sum_values-entries held_by (entries_of l),
      sum_by-map (λ (e : Credential × _). held_by e.1) (λ (c : Credential). (c, record { stake = output_stake l c; registered = account_at l c })) cs,
      sum_by-plus (output_stake l) balance cs,
      stakes_within l cs (credentials_ordered l),
      sum_values-without_keys credential_total credential_exact (λ (r : Registered). r.rewards) cs l.accounts accounts (IsDistinct-from_sorted credential_cmp cs (credentials_ordered l)),
    )
