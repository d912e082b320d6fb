-- What rows of books show. (Own)
use Rattle.std.specs.Prelude.{◌&&◌, not, List, [], ◌∷◌, Option, Some, None, if◌then◌else◌, is_some}
use Rattle.gov_ids.specs.declared.PoolId.{PoolId}
use Rattle.gov_ids.specs.Same.{same_pool}
use Rattle.book_records.specs.declared.pool.Pool.{Pool}
use Rattle.book_records.specs.declared.pool.PoolTerms.{PoolTerms}

-- the pool that a row shows: with at most one pair of future terms, which are its own
abbrev pub pool_of_row : (PoolId × Pool) × List (PoolId × PoolTerms) → Option (PoolId × Pool)
pool_of_row (p, []) = if is_some p.1.future then None else Some p
pool_of_row (p, t ∷ []) = if not (is_some p.1.future) && same_pool t.0 p.0 then Some (p.0, record p.1 { future = Some t.1 }) else None
pool_of_row (p, t ∷ u ∷ ts) = None
