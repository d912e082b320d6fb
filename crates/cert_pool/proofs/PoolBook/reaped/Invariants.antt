use Rattle.std.proofs.Common.{◌≡◌, map}
use Rattle.std.specs.Map.Iter.{deref_pair}
use Rattle.cert_pool.specs.Reaping.{reaped_of}
use Rattle.cert_pool.proofs.PoolBook.reaped.Given as goal

abbrev pub invariant-loop-p : goal.invariant-loop-p
invariant-loop-p l = l.reaped.items ≡ reaped_of l.epoch (map deref_pair l.yielded)
