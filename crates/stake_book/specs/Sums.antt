-- The running sums over the live entries: the balances, and the stake of each pool. (Own)
use Rattle.std.specs.Prelude.{ℕ, ◌≡◌, ◌+◌, List, Option, unwrap_or, if◌then◌else◌}
use Rattle.std.specs.declared.cmp.Ordering.{Ordering}
use Rattle.std.specs.Option.{option_and_then}
use Rattle.std.specs.Ordering.{eq_by_cmp}
use Rattle.gov_ids.specs.declared.Credential.{Credential}
use Rattle.gov_ids.specs.declared.PoolId.{PoolId}
use Rattle.gov_ids.specs.Orders.{pool_cmp}
use Rattle.gov_ids.specs.Same.{same_pool}
use Rattle.book_records.specs.declared.Entry.{Entry}
use Rattle.book_records.specs.declared.Registered.{Registered}
use Rattle.coin_frac.specs.Totals.{total_of}
use Rattle.maps.specs.Maps.{value_at, sum_values}
use Rattle.maps.specs.Words.{amount, holds}

-- the balance of an entry, in lovelace; 0 where it is not registered
abbrev pub balance_of : Entry → ℕ
balance_of e = amount (λ (r : Registered). r.rewards) e.registered

-- the pool to which an entry delegates
abbrev pub pool_of : Entry → Option PoolId
pool_of e = option_and_then (λ (r : Registered). r.pool) e.registered

-- the output stake and the balance of an entry
abbrev pub weight_of : Entry → ℕ
weight_of e = e.stake + balance_of e

-- what an entry adds to the stake of a pool
abbrev pub share_of : PoolId → Entry → ℕ
share_of p e = if holds same_pool (pool_of e) p then weight_of e else 0

-- what an entry adds to the stake of any pool
abbrev pub shared_by : Entry → ℕ
shared_by e = amount (λ _. weight_of e) (pool_of e)

-- all output stake and all balances
abbrev pub weight_in : List (Credential × Entry) → ℕ
weight_in entries = sum_values weight_of entries

-- the amount at a key
abbrev pub amount_at : {K : Type 0} → (K → K → Ordering) → List (K × ℕ) → K → ℕ
amount_at cmp amounts k = unwrap_or (value_at cmp amounts k) 0

-- the stake of a pool
abbrev pub stake_in : List (PoolId × ℕ) → PoolId → ℕ
stake_in pools p = amount_at pool_cmp pools p

-- the amount for the named key, 0 for any other
abbrev pub amount_for : {K : Type 0} → (K → K → Ordering) → ℕ → Option K → K → ℕ
amount_for cmp n named k = if holds (eq_by_cmp cmp) named k then n else 0

-- the amount at the key is higher by what is gained; without a key nothing changes
pub record IsRaised {K : Type 0} (cmp : K → K → Ordering) (key : Option K) (gained : ℕ) (before after : List (K × ℕ)) : Type 0 where
  pub each : (k : K) → amount_at cmp after k ≡ amount_at cmp before k + amount_for cmp gained key k
  pub total : total_of after ≡ total_of before + amount (λ _. gained) key
