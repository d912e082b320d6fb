use Rattle.std.proofs.Common.{ℕ, Result, drop, flat_map}
use Rattle.byte_lines.specs.declared.sink.SinkFault.{SinkFault}
use Rattle.report.specs.Taking.{HasPut}
use Rattle.item_lines.proofs.items.put_items.Given as goal

-- with what is handed over of the items that are left, all are handed over
abbrev pub invariant-loop-item : goal.invariant-loop-item
invariant-loop-item g l =
    (t : g.T.LineTaker.Taken) (f : ℕ) (r : Result (Unit {0}) SinkFault)
    → HasPut g.T.LineTaker.with_line g.T.LineTaker.IsPart l.line (g.T.LineTaker.taken l.to) (flat_map (g.P.ItemLines.lines l.printer) (drop l.item-index l.items)) t (g.T.LineTaker.faults l.to) f r
    → HasPut g.T.LineTaker.with_line g.T.LineTaker.IsPart l.line (g.T.LineTaker.taken l.fn.to) (flat_map (g.P.ItemLines.lines l.printer) l.items) t (g.T.LineTaker.faults l.fn.to) f r
