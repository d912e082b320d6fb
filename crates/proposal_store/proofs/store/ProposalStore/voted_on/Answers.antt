use Rattle.std.proofs.Common.{List, ap, sym, subst, ◌∙◌}
use Rattle.std.specs.List.{IsDistinct}
use Rattle.gov_ids.specs.declared.ActionId.{ActionId}
use Rattle.gov_ids.specs.Orders.{action_id_cmp}
use Rattle.gov_ids.specs.Same.{same_action}
use Rattle.gov_actions.specs.declared.action.Proposal.{Proposal}
use Rattle.maps.specs.Maps.{has_member}
use Rattle.proposal_store.specs.Voted.{is_voted_on}
use Rattle.proposal_store.proofs.store.ProposalStore.voted_on.Goals as goal

pub returns-clause-voted : goal.returns-clause-voted
returns-clause-voted c = λ id.
    ap (λ (ids : List ActionId). has_member action_id_cmp ids id) c.of.ensures
    ∙ c.self.invariant.1.noted c.args.drep.now id
    ∙ ap (λ (ps : List Proposal). is_voted_on c.args.drep.now id ps) c.self.view_is

pub returns-clause-once : goal.returns-clause-once
returns-clause-once c = subst (λ (ids : List ActionId). IsDistinct same_action ids) (sym c.of.ensures) (c.self.invariant.1.once c.args.drep.now)
