use Rattle.std.proofs.Common.{◌≡◌, drop, map}
use Rattle.undo_model.specs.Undone.{with_old_votes}
use Rattle.undo_back.proofs.proposals.restore_votes.Given as goal

-- what is left put back over the proposals so far is all put back
abbrev pub invariant-loop-id : goal.invariant-loop-id
invariant-loop-id l = map (with_old_votes (drop l.id-index l.votes)) l.proposals ≡ map (with_old_votes l.votes) l.fn.proposals
