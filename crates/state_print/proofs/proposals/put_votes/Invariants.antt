use Rattle.std.proofs.Common.{ℕ, Result, map}
use Rattle.byte_lines.specs.declared.sink.SinkFault.{SinkFault}
use Rattle.report.specs.Taking.{HasPut}
use Rattle.text_model.specs.StateLines.{vote_words}
use Rattle.state_print.proofs.proposals.put_votes.Given as goal

-- with what is handed over of the votes that are left, all are handed over
abbrev pub invariant-loop-voter : goal.invariant-loop-voter
invariant-loop-voter g l =
    (goal.iterator-loop-voter g).can_next l.voter-iterator
    × (goal.iterator-loop-voter g).is_finite l.voter-iterator
    × ((t : g.T.LineTaker.Taken) (f : ℕ) (r : Result (Unit {0}) SinkFault)
    → HasPut g.T.LineTaker.with_line g.T.LineTaker.IsPart l.line (g.T.LineTaker.taken l.to) (map (vote_words l.proposal) l.voter-iterator) t (g.T.LineTaker.faults l.to) f r
    → HasPut g.T.LineTaker.with_line g.T.LineTaker.IsPart l.line (g.T.LineTaker.taken l.fn.to) (map (vote_words l.proposal) l.proposal.votes) t (g.T.LineTaker.faults l.fn.to) f r)
