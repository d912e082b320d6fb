use Rattle.std.proofs.Common.{◌≡◌, ◌++◌, drop}
use Rattle.frozen_reads.specs.Stakes.{registered, stakes_by}
use Rattle.frozen_reads.proofs.stakes.registered_stakes.Given as goal

-- those so far, with those of the DReps that are left, are all
abbrev pub invariant-loop-d : goal.invariant-loop-d
invariant-loop-d l = l.stakes.items ++ stakes_by l.c.sums (registered (drop l.d-index l.dreps)) ≡ stakes_by l.c.sums (registered l.dreps)
