use Rattle.std.proofs.Common.{◌≡◌, ◌+◌, drop, sum_by}
use Rattle.tally.specs.Silent.{drep_weight}
use Rattle.tally.proofs.silent_dreps.silent_total.Given as goal

-- the sum so far with the DReps that are left
abbrev pub invariant-loop-drep : goal.invariant-loop-drep
invariant-loop-drep l = l.total + sum_by (drep_weight l.f l.c) (drop l.drep-index l.drep-items) ≡ sum_by (drep_weight l.f l.c) l.drep-items
