-- How many pools have a key, in their terms or their future terms. (Own)
use Rattle.std.specs.Prelude.{◌≡◌, ℕ, List, Option, Some, None, not, ◌&&◌, filter, length, unwrap_or, if◌then◌else◌}
use Rattle.std.specs.declared.cmp.Ordering.{Ordering}
use Rattle.std.specs.Ordering.{nat_cmp}
use Rattle.std.specs.Cmp.Lexicographic.{slice_cmp}
use Rattle.gov_ids.specs.declared.PoolId.{PoolId}
use Rattle.gov_ids.specs.Orders.{pool_cmp}
use Rattle.gov_ids.specs.Same.{same_pool}
use Rattle.book_records.specs.declared.pool.Pool.{Pool}
use Rattle.book_records.specs.Hashes.{same_hash}
use Rattle.book_records.specs.Pools.{uses_key}
use Rattle.maps.specs.Maps.{IsMap, value_at}
use Rattle.maps.specs.Words.{amount, holds}

-- how many pools other than p have the key
abbrev pub count_of_others : List ℕ → PoolId → List (PoolId × Pool) → ℕ
count_of_others key p pools = length (filter (λ e. not (same_pool e.0 p) && uses_key key e.1) pools)

-- how many pools have the key
abbrev pub count_of : List (PoolId × Pool) → List ℕ → ℕ
count_of pools key = length (filter (λ e. uses_key key e.1) pools)

-- how many of this one pool have the key: one or none
abbrev pub count_in : List ℕ → Pool → ℕ
count_in key p = if uses_key key p then 1 else 0

-- one if there is a pool that has the key, otherwise none
abbrev pub count_in_option : List ℕ → Option Pool → ℕ
count_in_option key p = amount (count_in key) p

-- one if this key is stated, otherwise none
abbrev pub count_in_key : List ℕ → Option (List ℕ) → ℕ
count_in_key key stated = if holds same_hash stated key then 1 else 0

-- the second key, if it is not the first
abbrev pub another : Option (List ℕ) → Option (List ℕ) → Option (List ℕ)
another None second = second
another (Some first) None = None
another (Some first) (Some second) = if same_hash first second then None else Some second

-- ---- what is kept

-- keys in order of their bytes
abbrev pub key_cmp : List ℕ → List ℕ → Ordering
key_cmp = slice_cmp nat_cmp

-- the count that is kept of a key; 0 if there is none
abbrev pub count_at : List (List ℕ × ℕ) → List ℕ → ℕ
count_at counts key = unwrap_or (value_at key_cmp counts key) 0

-- each key has its count
abbrev pub AreCounted : List (PoolId × Pool) → List (List ℕ × ℕ) → Type 0
AreCounted pools counts = (key : List ℕ) → count_at counts key ≡ count_of pools key

-- the pools are in order, and each key has its count
pub record IsIndexed (pools : List (PoolId × Pool)) (counts : List (List ℕ × ℕ)) : Type 0 where
  pub in_order : IsMap pool_cmp pools
  pub counted : AreCounted pools counts
