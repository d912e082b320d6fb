use Rattle.std.proofs.Common.{◌≡◌, ◌++◌, drop}
use Rattle.undo_before.specs.Old.{old_votes_at}
use Rattle.undo_before.proofs.votes.old_votes.Given as goal

abbrev pub invariant-loop-name : goal.invariant-loop-name
invariant-loop-name l = l.olds.items ++ old_votes_at l.store (drop l.name-index l.names) ≡ old_votes_at l.store l.names
