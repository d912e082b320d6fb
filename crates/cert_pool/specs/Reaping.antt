-- What a boundary reaps. (POOLREAP of the formal specification)
use Rattle.std.specs.Prelude.{ℕ, List, map}
use Rattle.gov_ids.specs.declared.PoolId.{PoolId}
use Rattle.book_records.specs.declared.pool.Pool.{Pool}
use Rattle.book_records.specs.Pools.{with_terms_turned, retired_at, staying_at}
use Rattle.cert_pool.specs.declared.Reaped.{Reaped}

-- a pool with its deposit and reward account
abbrev pub reaped_entry : PoolId × Pool → Reaped
reaped_entry e = record { pool = e.0; deposit = e.1.deposit; account = e.1.terms.account }

-- the pools that retire with the epoch, in order, after the future terms took effect
abbrev pub reaped_of : ℕ → List (PoolId × Pool) → List Reaped
reaped_of epoch pools = map reaped_entry (retired_at epoch (with_terms_turned pools))

-- the other pools, with the terms that took effect
abbrev pub left_of : ℕ → List (PoolId × Pool) → List (PoolId × Pool)
left_of epoch pools = staying_at epoch (with_terms_turned pools)
