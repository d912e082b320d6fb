use Rattle.std.proofs.Common.{ℕ, Result}
use Rattle.byte_lines.specs.declared.sink.SinkFault.{SinkFault}
use Rattle.claims.specs.Blocks.{IsPassed}
use Rattle.claims.proofs.Priorities.{later}
use Rattle.gov_ids.specs.Orders.{credential_cmp}
use Rattle.gov_model.specs.Sides.{members_of}
use Rattle.maps.specs.Maps.{IsMap}
use Rattle.ratify.specs.declared.passing.Passing.{Passing}
use Rattle.tally.specs.Counted.{ForSnapshot}
use Rattle.claims.proofs.blocks.put_priorities.Given as goal

-- with the pass over the priorities that are left, the pass is over all
abbrev pub invariant-loop-priority : goal.invariant-loop-priority
invariant-loop-priority g l = record {
  passed : ForSnapshot l.f l.c (λ s. (t : g.T.LineTaker.Taken) (faults : ℕ) (r : Result Passing SinkFault)
      → IsPassed g.T.LineTaker.with_line g.T.LineTaker.IsPart l.line (g.T.LineTaker.taken l.to) t (g.T.LineTaker.faults l.to) faults s l.passing (later l.proposals l.priority) r
      → IsPassed g.T.LineTaker.with_line g.T.LineTaker.IsPart l.line (g.T.LineTaker.taken l.fn.to) t (g.T.LineTaker.faults l.fn.to) faults s l.fn.passing (later l.proposals 0) r);
  members : IsMap credential_cmp (members_of l.passing.state.committee);
}
