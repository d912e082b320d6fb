use Rattle.std.proofs.Common.{ℕ, Result, drop, flat_map}
use Rattle.byte_lines.specs.declared.sink.SinkFault.{SinkFault}
use Rattle.report.specs.Taking.{HasPut}
use Rattle.voting_lines.specs.Told.{told_lines}
use Rattle.voting_lines.proofs.told.put_all.Given as goal

-- with what is handed over of the proposals that are left, all are handed over
abbrev pub invariant-loop-i : goal.invariant-loop-i
invariant-loop-i g l =
    (t : g.T.LineTaker.Taken) (f : ℕ) (r : Result (Unit {0}) SinkFault)
    → HasPut g.T.LineTaker.with_line g.T.LineTaker.IsPart l.line (g.T.LineTaker.taken l.to) (flat_map (told_lines l.ahead.tallies) (drop l.i l.proposals)) t (g.T.LineTaker.faults l.to) f r
    → HasPut g.T.LineTaker.with_line g.T.LineTaker.IsPart l.line (g.T.LineTaker.taken l.fn.to) (flat_map (told_lines l.ahead.tallies) l.proposals) t (g.T.LineTaker.faults l.fn.to) f r
