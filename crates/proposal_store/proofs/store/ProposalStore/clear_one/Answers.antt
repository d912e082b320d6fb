use Rattle.std.proofs.Common.{◌≡◌, List, map, ap, sym, subst, ◌∙◌}
use Rattle.std.specs.Map.{values_of}
use Rattle.gov_ids.specs.declared.ActionId.{ActionId}
use Rattle.gov_ids.specs.declared.Voter.TheVariants.{Drep}
use Rattle.gov_actions.specs.declared.action.Proposal.{Proposal}
use Rattle.gov_model.specs.Proposals.{without_vote}
use Rattle.proposal_store.specs.Changes.{dropping, each}
use Rattle.proposal_store.specs.Store.{AllOrdered, IsStore}
use Rattle.proposal_store.specs.Voted.{AreNoted}
use Rattle.proposal_store.proofs.Noting.{AreNoted-cleared, each_dropped}
use Rattle.proposal_store.proofs.Voting.{values_each, IsStore-voted, dropping_votes}
use Rattle.proposal_store.proofs.store.ProposalStore.clear_one.Goals as goal

pub drop_from-requires-clause-keyed : goal.drop_from-requires-clause-keyed
drop_from-requires-clause-keyed c = c.self.invariant.0.keyed

pub drop_from-requires-clause-distinct : goal.drop_from-requires-clause-distinct
drop_from-requires-clause-distinct c = c.self.invariant.0.distinct

pub drop_from-requires-clause-ordered : goal.drop_from-requires-clause-ordered
drop_from-requires-clause-ordered c = c.self.invariant.0.ordered

pub returns-clause-ordered : goal.returns-clause-ordered
returns-clause-ordered c = subst (λ (ps : List Proposal). AllOrdered ps) c.self.view_is c.self.invariant.0.ordered

pub returns-clause-cleared : goal.returns-clause-cleared
returns-clause-cleared c =
    let drep = c.args.drep.now in
    let f = without_vote (Drep drep) in
    let a = c.self.inside in
    let es = a.proposals.entries in
    let kept : c.drop_from.new.proposals.entries ≡ each f es =
    c.drop_from.ensures ∙ ap (λ (ids : List ActionId). each (dropping (Drep drep) ids) es) (c.as_slice.ensures ∙ c.take-ids.ensures.taken) ∙ each_dropped a.voted drep es c.self.invariant.0.distinct c.self.invariant.1 in
    ap (λ (l : List (ActionId × Proposal)). values_of l) kept ∙ values_each f es ∙ ap (λ (ps : List Proposal). map f ps) c.self.view_is

pub invariant_of-self : goal.invariant_of-self
invariant_of-self c =
    let drep = c.args.drep.now in
    let f = without_vote (Drep drep) in
    let a = c.self.inside in
    let es = a.proposals.entries in
    let kept : c.drop_from.new.proposals.entries ≡ each f es =
    c.drop_from.ensures ∙ ap (λ (ids : List ActionId). each (dropping (Drep drep) ids) es) (c.as_slice.ensures ∙ c.take-ids.ensures.taken) ∙ each_dropped a.voted drep es c.self.invariant.0.distinct c.self.invariant.1 in
    subst (λ (l : List (ActionId × Proposal)). IsStore l a.families a.added a.deposits × AreNoted c.take-ids.new.self (values_of l)) (sym kept) (
      IsStore-voted f (dropping_votes (Drep drep)) es a.families a.added a.deposits c.self.invariant.0,
      subst (λ (ps : List Proposal). AreNoted c.take-ids.new.self ps) (sym (values_each f es))
          (AreNoted-cleared drep a.voted c.take-ids.new.self (values_of es) c.take-ids.ensures.left c.self.invariant.0.ordered c.self.invariant.1),
    )
