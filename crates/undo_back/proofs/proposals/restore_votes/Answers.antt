use Rattle.std.proofs.Common.{◌≤◌, length, sym, ◌∙◌, arith}
use Rattle.undo_back.proofs.Votes.{vote_next, votes_done}
use Rattle.undo_back.proofs.proposals.restore_votes.Goals as goal

pub loop-id-preserved : goal.loop-id-preserved
loop-id-preserved c =
    vote_next c.args.votes.now c.loop-id.id-index _ c.loop-id.proposals c.restore_vote.new.proposals c.loop-id-test.true c.in_ok-restore_vote.ensures ∙ c.loop-id.invariant

pub returns : goal.returns
returns c =
    let all : length c.args.votes.now ≤ c.loop-id.id-index = omega arith in
    sym (votes_done c.args.votes.now c.loop-id.id-index c.loop-id.proposals all) ∙ c.loop-id.invariant
