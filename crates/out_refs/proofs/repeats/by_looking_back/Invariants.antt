use Rattle.std.proofs.Common.{◌≡◌, drop, take}
use Rattle.out_refs.specs.Repeated.{first_repeated}
use Rattle.out_refs.proofs.Fronts.{first_repeated_after}
use Rattle.out_refs.proofs.repeats.by_looking_back.Given as goal

-- the first of what is left is the first of all
abbrev pub invariant-loop-place : goal.invariant-loop-place
invariant-loop-place l = first_repeated_after (take l.place l.refs) (drop l.place l.refs) ≡ first_repeated l.refs
