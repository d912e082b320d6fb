use Rattle.std.proofs.Common.{List, ◌+◌, length}
use Rattle.gov_actions.specs.declared.action.Proposal.{Proposal}
use Rattle.gov_actions.specs.declared.state.LastIds.{LastIds}
use Rattle.lineage.specs.Walks.{IsWalk}
use Rattle.lineage.proofs.kept.Walk.run.Given as goal

abbrev pub invariant-loop-purpose : goal.invariant-loop-purpose
invariant-loop-purpose l =
    (rest : List Proposal) (last : LastIds) → IsWalk l.store rest last l.fn.self → IsWalk l.store rest last l.self

abbrev pub decreases-loop-purpose : goal.decreases-loop-purpose
decreases-loop-purpose l = length l.self.pending + length l.self.orphans
