use Rattle.std.proofs.Common.{ℕ, Result, drop, flat_map}
use Rattle.byte_lines.specs.declared.sink.SinkFault.{SinkFault}
use Rattle.checkpoint_model.specs.Checkpoint.{frozen_proposal_lines}
use Rattle.report.specs.Taking.{HasPut}
use Rattle.checkpoint_print.proofs.frozen_proposals.put_proposals.Given as goal

-- with the lines of the proposals that are left, all are handed over
abbrev pub invariant-loop-proposal : goal.invariant-loop-proposal
invariant-loop-proposal g l =
    (t : g.T.LineTaker.Taken) (f : ℕ) (r : Result (Unit {0}) SinkFault)
    → HasPut g.T.LineTaker.with_line g.T.LineTaker.IsPart 0 (g.T.LineTaker.taken l.to) (flat_map frozen_proposal_lines (drop l.proposal-index l.proposals)) t (g.T.LineTaker.faults l.to) f r
    → HasPut g.T.LineTaker.with_line g.T.LineTaker.IsPart 0 (g.T.LineTaker.taken l.fn.to) (flat_map frozen_proposal_lines l.proposals) t (g.T.LineTaker.faults l.fn.to) f r
