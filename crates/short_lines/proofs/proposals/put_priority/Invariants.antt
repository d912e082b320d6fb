use Rattle.std.proofs.Common.{ℕ, Result}
use Rattle.byte_lines.specs.declared.sink.SinkFault.{SinkFault}
use Rattle.report.specs.Taking.{HasPut}
use Rattle.short_lines.specs.Ranked.{ForRanked}
use Rattle.short_lines.proofs.InPriority.{lines_from}
use Rattle.short_lines.proofs.proposals.put_priority.Given as goal

-- with what is handed over of the proposals that are left, all of the priority are handed over
abbrev pub invariant-loop-i : goal.invariant-loop-i
invariant-loop-i g l =
    ForRanked l.f l.ranking l.cells (λ s. (t : g.T.LineTaker.Taken) (faults : ℕ) (r : Result (Unit {0}) SinkFault)
    → HasPut g.T.LineTaker.with_line g.T.LineTaker.IsPart l.line (g.T.LineTaker.taken l.to) (lines_from s l.priority l.proposals l.i) t (g.T.LineTaker.faults l.to) faults r
    → HasPut g.T.LineTaker.with_line g.T.LineTaker.IsPart l.line (g.T.LineTaker.taken l.fn.to) (lines_from s l.priority l.proposals 0) t (g.T.LineTaker.faults l.fn.to) faults r)
