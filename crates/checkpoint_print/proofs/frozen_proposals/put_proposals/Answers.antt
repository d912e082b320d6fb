use Rattle.std.proofs.Common.{◌+◌, drop, flat_map, ap, sym}
use Rattle.checkpoint_model.specs.Checkpoint.{frozen_proposal_lines}
use Rattle.report.proofs.Handed.{put_both, put_front, nothing, of_first, from_place, past_places}
use Rattle.checkpoint_print.proofs.frozen_proposals.put_proposals.Goals as goal

pub returns-in_err-put_proposal : goal.returns-in_err-put_proposal
returns-in_err-put_proposal g c =
    c.loop-proposal.invariant (g.T.LineTaker.taken c.put_proposal.new.to) (g.T.LineTaker.faults c.put_proposal.new.to) c.from_residual.result
    (put_front _ (of_first frozen_proposal_lines (drop c.loop-proposal.proposal-index c.args.proposals.now) (drop (c.loop-proposal.proposal-index + 1) c.args.proposals.now) c.proposal-item.result
    (from_place c.args.proposals.now c.loop-proposal.proposal-index c.proposal-item.result c.loop-proposal-test.true c.proposal-item.is)) c.in_err-put_proposal.ensures c.from_residual.ensures.1)

pub loop-proposal-preserved : goal.loop-proposal-preserved
loop-proposal-preserved g c = λ t f r later.
    c.loop-proposal.invariant t f r
    (put_both (of_first frozen_proposal_lines (drop c.loop-proposal.proposal-index c.args.proposals.now) (drop (c.loop-proposal.proposal-index + 1) c.args.proposals.now) c.proposal-item.result
    (from_place c.args.proposals.now c.loop-proposal.proposal-index c.proposal-item.result c.loop-proposal-test.true c.proposal-item.is)) c.in_ok-put_proposal.ensures later)

pub returns : goal.returns
returns g c =
    c.loop-proposal.invariant (g.T.LineTaker.taken c.loop-proposal.to) (g.T.LineTaker.faults c.loop-proposal.to) _
    (nothing (ap (flat_map frozen_proposal_lines) (sym (past_places c.args.proposals.now c.loop-proposal.proposal-index c.loop-proposal-test.false))))
