use Rattle.std.proofs.Common.{ℕ, Result, flat_map, length}
use Rattle.byte_lines.specs.declared.sink.SinkFault.{SinkFault}
use Rattle.gov_ids.specs.Orders.{outref_cmp}
use Rattle.report.specs.Taking.{HasPut}
use Rattle.text_model.specs.StateLines.{output_lines}
use Rattle.view_map.specs.Walk.{entries_past}
use Rattle.state_print.proofs.outputs.put_outputs.Given as goal

abbrev pub decreases-loop-reference : goal.decreases-loop-reference
decreases-loop-reference g l = length (entries_past outref_cmp l.last l.outputs.outputs)

-- with what is handed over of the outputs that are left, all are handed over
abbrev pub invariant-loop-reference : goal.invariant-loop-reference
invariant-loop-reference g l =
    (t : g.T.LineTaker.Taken) (f : ℕ) (r : Result (Unit {0}) SinkFault)
    → HasPut g.T.LineTaker.with_line g.T.LineTaker.IsPart l.line (g.T.LineTaker.taken l.to) (flat_map output_lines (entries_past outref_cmp l.last l.outputs.outputs)) t (g.T.LineTaker.faults l.to) f r
    → HasPut g.T.LineTaker.with_line g.T.LineTaker.IsPart l.line (g.T.LineTaker.taken l.fn.to) (flat_map output_lines l.outputs.outputs) t (g.T.LineTaker.faults l.fn.to) f r
