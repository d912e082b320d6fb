use Rattle.std.proofs.Common.{◌≡◌, drop, map}
use Rattle.proposal_store.specs.Leaving.{without_votes_of}
use Rattle.proposal_store.proofs.store.ProposalStore.clear_votes_of.Given as goal

-- the votes of the DReps that are left leave what those of all leave
abbrev pub invariant-loop-drep : goal.invariant-loop-drep
invariant-loop-drep l = map (without_votes_of (drop l.drep-index l.dreps)) l.self ≡ map (without_votes_of l.dreps) l.fn.self
