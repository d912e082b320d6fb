use Rattle.fewest_votes.proofs.Taken.{AreTaken}
use Rattle.fewest_votes.proofs.fronts.short_by.Given as goal

-- the DReps taken so far do not reach, and with those that are left are all
abbrev pub invariant-loop-drep : goal.invariant-loop-drep
invariant-loop-drep l = AreTaken l.need (l.yes, l.total) l.a l.dreps l.drep-index l.chosen l.ayes
