use Rattle.std.proofs.Common.{ℕ, Result, drop}
use Rattle.byte_lines.specs.declared.sink.SinkFault.{SinkFault}
use Rattle.claims.specs.Blocks.{IsPassed}
use Rattle.gov_ids.specs.Orders.{credential_cmp}
use Rattle.gov_model.specs.Sides.{members_of}
use Rattle.maps.specs.Maps.{IsMap}
use Rattle.ratify.specs.declared.passing.Passing.{Passing}
use Rattle.ratify.specs.Passes.{of_priority}
use Rattle.tally.specs.Counted.{ForSnapshot}
use Rattle.claims.proofs.blocks.put_priority.Given as goal

-- with the pass over the proposals that are left, the pass is over all
abbrev pub invariant-loop-a : goal.invariant-loop-a
invariant-loop-a g l = record {
  passed : ForSnapshot l.f l.c (λ s. (t : g.T.LineTaker.Taken) (faults : ℕ) (r : Result Passing SinkFault)
      → IsPassed g.T.LineTaker.with_line g.T.LineTaker.IsPart l.line (g.T.LineTaker.taken l.to) t (g.T.LineTaker.faults l.to) faults s l.passing (of_priority l.priority (drop l.a-index l.proposals)) r
      → IsPassed g.T.LineTaker.with_line g.T.LineTaker.IsPart l.line (g.T.LineTaker.taken l.fn.to) t (g.T.LineTaker.faults l.fn.to) faults s l.fn.passing (of_priority l.priority l.proposals) r);
  members : IsMap credential_cmp (members_of l.passing.state.committee);
}
