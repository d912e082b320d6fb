use Rattle.std.proofs.Common.{◌≡◌, drop}
use Rattle.std.specs.Map.{keys_of}
use Rattle.gov_ids.specs.declared.Drep.{Drep}
use Rattle.drep_pulser.specs.Parts.{sum_with}
use Rattle.drep_pulser.proofs.walk.Walk.close.Given as goal

-- each sum with those of the parts that are left is that with all parts
abbrev pub invariant-loop-part : goal.invariant-loop-part
invariant-loop-part l = record {
  keys : keys_of l.self-inside.sums ≡ keys_of l.initial.self-inside.sums;
  sums : (d : Drep) → sum_with (drop l.part-index l.part-items) l.self-inside.sums d ≡ sum_with l.part-items l.initial.self-inside.sums d;
  total : l.self-inside.total ≡ l.initial.self-inside.total;
}
