use Rattle.std.proofs.Common.{◌≡◌, drop, map}
use Rattle.live_ledger.proofs.Proposing.{voted}
use Rattle.live_ledger.proofs.proposals.cast_votes.Given as goal

abbrev pub invariant-loop-cast : goal.invariant-loop-cast
invariant-loop-cast l = map (voted (drop l.cast-index l.cast-items)) l.store ≡ map (voted l.cast-items) l.fn.store
