use Rattle.std.proofs.Common.{◌≡◌, ◌+◌, ◌≤◌, drop, sum_by}
use Rattle.gov_ids.specs.declared.Drep.TheVariants as drep
use Rattle.drep_pulser.specs.Count.{sum_for}
use Rattle.tally.specs.Adding.{with_sides}
use Rattle.tally.proofs.DrepSides.{sides_of_dreps}
use Rattle.tally.proofs.dreps.drep_count.Given as goal

-- the count so far with the DReps that are left
abbrev pub invariant-loop-drep : goal.invariant-loop-drep
invariant-loop-drep l = record {
  rest : with_sides l.count (sides_of_dreps l.f l.c l.a (drop l.drep-index l.drep-items)) ≡ with_sides (0, 0) (sides_of_dreps l.f l.c l.a l.drep-items);
  part : l.count.0 ≤ l.count.1;
  room : l.count.1 + sum_by (λ d. sum_for l.c.sums (drep.Registered d.0)) (drop l.drep-index l.drep-items) ≤ sum_by (λ d. sum_for l.c.sums (drep.Registered d.0)) l.drep-items;
}
