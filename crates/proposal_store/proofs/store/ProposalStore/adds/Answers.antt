use Rattle.std.proofs.Common.{List, nat_lt, ap, ◌∙◌}
use Rattle.std.specs.Map.{values_of}
use Rattle.gov_actions.specs.declared.action.Proposal.{Proposal}
use Rattle.proposal_store.specs.Added.{is_proposed}
use Rattle.proposal_store.proofs.Adding.{proposed_is}
use Rattle.proposal_store.proofs.store.ProposalStore.adds.Goals as goal

pub returns : goal.returns
returns c =
    let cold = c.args.cold.now in
    c.has.ensures
    ∙ ap (nat_lt 0) (c.self.invariant.0.added cold)
    ∙ proposed_is cold (values_of c.self.inside.proposals.entries)
    ∙ ap (λ (ps : List Proposal). is_proposed cold ps) c.self.view_is
