use Rattle.std.proofs.Common.{ℕ, Result, map, drop}
use Rattle.byte_lines.specs.declared.sink.SinkFault.{SinkFault}
use Rattle.report.specs.Taking.{HasPut}
use Rattle.explain_print.proofs.lined.put_each.Given as goal

-- with what is handed over of the items that are left, all are handed over
abbrev pub invariant-loop-item : goal.invariant-loop-item
invariant-loop-item g l =
    (t : g.T.LineTaker.Taken) (f : ℕ) (r : Result (Unit {0}) SinkFault)
    → HasPut g.T.LineTaker.with_line g.T.LineTaker.IsPart l.line (g.T.LineTaker.taken l.to) (map g.P.Lined.words (drop l.item-index l.items)) t (g.T.LineTaker.faults l.to) f r
    → HasPut g.T.LineTaker.with_line g.T.LineTaker.IsPart l.line (g.T.LineTaker.taken l.fn.to) (map g.P.Lined.words l.items) t (g.T.LineTaker.faults l.fn.to) f r
