use Rattle.std.proofs.Common.{◌≡◌, ◌++◌, drop, map}
use Rattle.tx_records.specs.declared.tx.VoteRecord.{VoteRecord}
use Rattle.undo_before.proofs.votes.cast_votes.Given as goal

abbrev pub invariant-loop-cast : goal.invariant-loop-cast
invariant-loop-cast l = l.all.items ++ map (λ (x : VoteRecord). (x.action, x.voter)) (drop l.cast-index l.votes) ≡ map (λ (x : VoteRecord). (x.action, x.voter)) l.votes
