use Rattle.std.proofs.Common.{List, ap, ◌∙◌}
use Rattle.gov_actions.specs.declared.action.Proposal.{Proposal}
use Rattle.gov_model.specs.Proposals.{proposal_of}
use Rattle.proposal_store.proofs.Entries.{lookup_finds}
use Rattle.proposal_store.proofs.store.ProposalStore.get.Goals as goal

pub returns : goal.returns
returns c =
    c.get.ensures.value ∙ lookup_finds c.args.id.now c.self.inside.proposals.entries c.self.invariant.0.keyed
    ∙ ap (λ (ps : List Proposal). proposal_of c.args.id.now ps) c.self.view_is
