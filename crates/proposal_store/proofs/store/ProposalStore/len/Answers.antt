use Rattle.std.proofs.Common.{List, subst}
use Rattle.std.specs.List.{IsDistinct}
use Rattle.gov_ids.specs.Same.{same_action}
use Rattle.gov_actions.specs.declared.action.Proposal.{Proposal}
use Rattle.gov_model.specs.Ratified.{ids_of}
use Rattle.proposal_store.proofs.store.ProposalStore.len.Goals as goal

pub returns-clause-distinct : goal.returns-clause-distinct
returns-clause-distinct c =
    subst (λ (ps : List Proposal). IsDistinct same_action (ids_of ps)) c.self.view_is c.self.invariant.0.distinct
