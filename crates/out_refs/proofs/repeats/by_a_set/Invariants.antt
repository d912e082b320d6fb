use Rattle.std.proofs.Common.{◌≡◌, drop, take}
use Rattle.out_refs.specs.Repeated.{first_repeated}
use Rattle.out_refs.proofs.Fronts.{HasFront, first_repeated_after}
use Rattle.out_refs.proofs.repeats.by_a_set.Given as goal

-- the set has those that stand before, and the first of what is left is the first of all
abbrev pub invariant-loop-place : goal.invariant-loop-place
invariant-loop-place l = record {
  seen : HasFront l.seen.keys (take l.place l.refs);
  left : first_repeated_after (take l.place l.refs) (drop l.place l.refs) ≡ first_repeated l.refs;
}
