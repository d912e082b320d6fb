use Rattle.std.proofs.Common.{◌≡◌, ◌++◌, drop}
use Rattle.undo_before.proofs.Voting.{votes_by}
use Rattle.undo_before.proofs.votes.add_votes.Given as goal

abbrev pub invariant-loop-id : goal.invariant-loop-id
invariant-loop-id l = l.all.items ++ votes_by l.drep (drop l.id-index l.ids) ≡ l.fn.all.items ++ votes_by l.drep l.ids
