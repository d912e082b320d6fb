use Rattle.std.proofs.Common.{◌∙◌}
use Rattle.undo_before.proofs.Voting.{all_voted, next_voted}
use Rattle.undo_before.proofs.votes.old_votes.Goals as goal

pub loop-name-preserved : goal.loop-name-preserved
loop-name-preserved c =
    next_voted c.args.store.now c.args.names.now c.loop-name.name-index _ c.loop-name.olds.items c.push.new.self.items c.vote_on.result c.loop-name-test.true c.vote_on.ensures c.in_ok-push.ensures.items c.loop-name.invariant

pub returns : goal.returns
returns c = c.from_vec.ensures ∙ all_voted c.args.store.now c.args.names.now c.loop-name.name-index c.loop-name.olds.items c.loop-name-test.false c.loop-name.invariant
