use Rattle.std.proofs.Common.{ℕ, Result}
use Rattle.byte_lines.specs.declared.sink.SinkFault.{SinkFault}
use Rattle.report.specs.Taking.{HasPut}
use Rattle.short_lines.specs.Ranked.{ForRanked}
use Rattle.short_lines.proofs.InPriority.{lines_later}
use Rattle.short_lines.proofs.proposals.put_ranked.Given as goal

-- with what is handed over of the priorities that are left, all are handed over
abbrev pub invariant-loop-priority : goal.invariant-loop-priority
invariant-loop-priority g l =
    ForRanked l.f l.ranking l.cells (λ s. (t : g.T.LineTaker.Taken) (faults : ℕ) (r : Result (Unit {0}) SinkFault)
    → HasPut g.T.LineTaker.with_line g.T.LineTaker.IsPart l.line (g.T.LineTaker.taken l.to) (lines_later s s.proposals l.priority) t (g.T.LineTaker.faults l.to) faults r
    → HasPut g.T.LineTaker.with_line g.T.LineTaker.IsPart l.line (g.T.LineTaker.taken l.fn.to) (lines_later s s.proposals 0) t (g.T.LineTaker.faults l.fn.to) faults r)
