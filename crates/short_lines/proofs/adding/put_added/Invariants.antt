use Rattle.std.proofs.Common.{ℕ, Result, map, drop}
use Rattle.byte_lines.specs.declared.sink.SinkFault.{SinkFault}
use Rattle.report.specs.Taking.{HasPut}
use Rattle.shortfall_model.specs.ShortLines.{add_words}
use Rattle.short_lines.proofs.adding.put_added.Given as goal

-- with what is handed over of the DReps that are left, all are handed over
abbrev pub invariant-loop-drep : goal.invariant-loop-drep
invariant-loop-drep g l =
    (t : g.T.LineTaker.Taken) (f : ℕ) (r : Result (Unit {0}) SinkFault)
    → HasPut g.T.LineTaker.with_line g.T.LineTaker.IsPart l.line (g.T.LineTaker.taken l.to) (map add_words (drop l.drep-index l.dreps)) t (g.T.LineTaker.faults l.to) f r
    → HasPut g.T.LineTaker.with_line g.T.LineTaker.IsPart l.line (g.T.LineTaker.taken l.fn.to) (map add_words l.dreps) t (g.T.LineTaker.faults l.fn.to) f r
