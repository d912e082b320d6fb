use Rattle.std.proofs.Common.{◌≡◌, ℕ, ◌+◌, List, sum_by}
use Rattle.cert_pool.specs.Keys.{count_at, count_of}
use Rattle.cert_pool.specs.Reaping.{left_of}
use Rattle.cert_pool.proofs.Counting.{count_staying}
use Rattle.cert_pool.proofs.PoolBook.keys_left.Given as goal

-- the counts so far and those of the pools that are left are those of all that stay
abbrev pub invariant-loop-pool : goal.invariant-loop-pool
invariant-loop-pool l = (key : List ℕ) → count_at l.counts key + sum_by (count_staying l.epoch key) l.pool-iterator ≡ count_of (left_of l.epoch l.self) key
