use Rattle.std.proofs.Common.{◌≡◌, length}
use Rattle.view_map.specs.Marks.{unchanged_in}
use Rattle.view_map.proofs.unchanged.next_unchanged.Given as goal

-- what is left is what was
abbrev pub invariant-loop-key : goal.invariant-loop-key
invariant-loop-key g l = unchanged_in l.mark l.rest ≡ unchanged_in l.mark l.initial.rest

abbrev pub decreases-loop-key : goal.decreases-loop-key
decreases-loop-key g l = length l.rest
