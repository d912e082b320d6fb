use Rattle.std.proofs.Common.{ap, ◌∙◌}
use Rattle.gov_actions.specs.declared.action.Proposal.{Proposal}
use Rattle.gov_ids.specs.Derived.{voter_is}
use Rattle.gov_ids.specs.Orders.{voter_cmp}
use Rattle.maps.specs.Maps.{value_at}
use Rattle.proposal_store.proofs.live.LiveProposal.vote_of.Goals as goal

pub returns : goal.returns
returns c =
    c.copied.ensures ∙ c.get.ensures.value ∙ (λ i. value_at (voter_is i) c.self.inside.votes.entries c.args.v.now)
    ∙ ap (λ (p : Proposal). value_at voter_cmp p.votes c.args.v.now) c.self.view_is
