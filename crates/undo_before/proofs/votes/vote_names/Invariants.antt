use Rattle.std.proofs.Common.{take}
use Rattle.undo_before.proofs.Voting.{AreVoteNames}
use Rattle.undo_before.proofs.votes.vote_names.Given as goal

abbrev pub invariant-loop-drep : goal.invariant-loop-drep
invariant-loop-drep l = AreVoteNames l.tx (take l.drep-index l.left) l.store l.all.items
