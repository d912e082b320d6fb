use Rattle.std.proofs.Common.{ℕ, Result, length}
use Rattle.byte_lines.specs.declared.sink.SinkFault.{SinkFault}
use Rattle.report.specs.Taking.{HasPut}
use Rattle.checkpoint_print.proofs.source.put_left.Given as goal

abbrev pub decreases-loop-line : goal.decreases-loop-line
decreases-loop-line g l = length (g.S.LineSource.left l.source)

-- with the lines that are left, all are handed over
abbrev pub invariant-loop-line : goal.invariant-loop-line
invariant-loop-line g l =
    (t : g.T.LineTaker.Taken) (f : ℕ) (r : Result (Unit {0}) SinkFault)
    → HasPut g.T.LineTaker.with_line g.T.LineTaker.IsPart 0 (g.T.LineTaker.taken l.to) (g.S.LineSource.left l.source) t (g.T.LineTaker.faults l.to) f r
    → HasPut g.T.LineTaker.with_line g.T.LineTaker.IsPart 0 (g.T.LineTaker.taken l.fn.to) (g.S.LineSource.left l.fn.source) t (g.T.LineTaker.faults l.fn.to) f r
