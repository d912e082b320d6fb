use Rattle.std.proofs.Common.{ℕ, None, Result, flat_map, length}
use Rattle.byte_lines.specs.declared.sink.SinkFault.{SinkFault}
use Rattle.report.specs.Taking.{HasPut}
use Rattle.state_print.proofs.walk.put_walk.Given as goal

abbrev pub decreases-loop-entry : goal.decreases-loop-entry
decreases-loop-entry g l = length (g.W.Walked.past l.book l.last)

-- with what is handed over of the entries that are left, all are handed over
abbrev pub invariant-loop-entry : goal.invariant-loop-entry
invariant-loop-entry g l =
    (t : g.T.LineTaker.Taken) (f : ℕ) (r : Result (Unit {0}) SinkFault)
    → HasPut g.T.LineTaker.with_line g.T.LineTaker.IsPart l.line (g.T.LineTaker.taken l.to) (flat_map (g.W.Walked.lines l.book) (g.W.Walked.past l.book l.last)) t (g.T.LineTaker.faults l.to) f r
    → HasPut g.T.LineTaker.with_line g.T.LineTaker.IsPart l.line (g.T.LineTaker.taken l.fn.to) (flat_map (g.W.Walked.lines l.book) (g.W.Walked.past l.book None)) t (g.T.LineTaker.faults l.fn.to) f r
