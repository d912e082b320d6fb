use Rattle.std.proofs.Common.{◌≡◌, length}
use Rattle.std.specs.List.{All}
use Rattle.drep_pulser.specs.Parts.{no_part}
use Rattle.drep_pulser.proofs.walk.Walk.parts.Given as goal

abbrev pub invariant-loop-worker : goal.invariant-loop-worker
invariant-loop-worker l = record {
  each : length l.parts.items ≡ l._worker;
  empty : All (λ part. part ≡ no_part l.self.sums) l.parts.items;
}
