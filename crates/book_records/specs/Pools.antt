-- Registered pools after registrations, retirements and a boundary.
-- (POOL and POOLREAP of the formal specification)
use Rattle.std.specs.Prelude.{ℕ, ◌==◌, Bool, not, ◌&&◌, ◌||◌, List, Option, Some, None, unwrap_or}
use Rattle.std.specs.List.{list_any}
use Rattle.gov_ids.specs.of_maps.Maps.{value_at, with_value, changed_at, each_value, entries_where}
use Rattle.gov_ids.specs.of_maps.Words.{holds, some_and}
use Rattle.gov_ids.specs.declared.PoolId.{PoolId}
use Rattle.gov_ids.specs.Orders.{pool_cmp}
use Rattle.gov_ids.specs.Same.{same_pool}
use Rattle.book_records.specs.Hashes.{same_hash}
use Rattle.book_records.specs.declared.pool.Pool.{Pool}
use Rattle.book_records.specs.declared.pool.PoolTerms.{PoolTerms}

-- a new pool with its deposit and terms
-- a registered pool gets the terms as its future terms, and no longer retires
abbrev pub pool_after : ℕ → PoolTerms → Option Pool → Pool
pool_after deposit terms None = record { deposit = deposit; terms = terms; future = None; retires = None }
pool_after deposit terms (Some p) = record p { future = Some terms; retires = None }

-- the terms have the key
abbrev pub is_key_of : List ℕ → PoolTerms → Bool
is_key_of key terms = holds same_hash terms.key key

-- a pool has the key, in the terms that hold or in its future terms
abbrev pub uses_key : List ℕ → Pool → Bool
uses_key key p = is_key_of key p.terms || some_and (is_key_of key) p.future

-- a pool other than p has the key
abbrev pub is_key_of_other : List ℕ → PoolId → List (PoolId × Pool) → Bool
is_key_of_other key p pools = list_any (λ e. not (same_pool e.0 p) && uses_key key e.1) pools

-- the pools with this one registered
abbrev pub with_registration : PoolId → PoolTerms → ℕ → List (PoolId × Pool) → List (PoolId × Pool)
with_registration p terms deposit pools =
    with_value pool_cmp p (pool_after deposit terms (value_at pool_cmp pools p)) pools

-- a pool that retires
abbrev pub retiring : ℕ → Pool → Pool
retiring epoch p = record p { retires = Some epoch }

-- the pools with this one retiring
abbrev pub with_retirement : PoolId → ℕ → List (PoolId × Pool) → List (PoolId × Pool)
with_retirement p epoch pools = changed_at pool_cmp p (retiring epoch) pools

-- the future terms of a pool hold, if it has some
abbrev pub turned : Pool → Pool
turned p = record p { terms = unwrap_or p.future p.terms; future = None }

-- the future terms of each pool hold
abbrev pub with_terms_turned : List (PoolId × Pool) → List (PoolId × Pool)
with_terms_turned pools = each_value (λ p t. turned t) pools

-- a pool that retires with this epoch
abbrev pub retires_at : ℕ → Pool → Bool
retires_at epoch p = some_and (λ e. e == epoch) p.retires

-- those pools
abbrev pub retired_at : ℕ → List (PoolId × Pool) → List (PoolId × Pool)
retired_at epoch pools = entries_where (λ p t. retires_at epoch t) pools

-- the others
abbrev pub staying_at : ℕ → List (PoolId × Pool) → List (PoolId × Pool)
staying_at epoch pools = entries_where (λ p t. not (retires_at epoch t)) pools
