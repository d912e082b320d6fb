use Rattle.std.proofs.Common.{List, ap, sym, subst, ◌∙◌}
use Rattle.std.specs.Map.{values_of}
use Rattle.gov_ids.specs.declared.ActionId.{ActionId}
use Rattle.gov_actions.specs.declared.action.Proposal.{Proposal}
use Rattle.gov_model.specs.Proposals.{without_vote, with_change}
use Rattle.proposal_store.specs.Changes.{changing}
use Rattle.proposal_store.specs.Store.{IsStore}
use Rattle.proposal_store.specs.Voted.{AreNoted}
use Rattle.proposal_store.proofs.Noting.{AreNoted-dropped}
use Rattle.proposal_store.proofs.Voting.{values_each, IsStore-voted, changing_votes, dropping_votes}
use Rattle.proposal_store.proofs.store.ProposalStore.unvote.Goals as goal

pub drop_at-requires-clause-keyed : goal.drop_at-requires-clause-keyed
drop_at-requires-clause-keyed c = c.self.invariant.0.keyed

pub drop_at-requires-clause-distinct : goal.drop_at-requires-clause-distinct
drop_at-requires-clause-distinct c = c.self.invariant.0.distinct

pub returns : goal.returns
returns c =
    let f = changing c.args.id.now (without_vote c.args.v.now) in
    ap (λ (l : List (ActionId × Proposal)). values_of l) c.drop_at.ensures
    ∙ values_each f c.self.inside.proposals.entries
    ∙ ap (λ (ps : List Proposal). with_change c.args.id.now (without_vote c.args.v.now) ps) c.self.view_is

pub forget_vote-requires : goal.forget_vote-requires
forget_vote-requires c = c.self.invariant.1.once

pub invariant_of-self : goal.invariant_of-self
invariant_of-self c =
    let id = c.args.id.now in
    let f = without_vote c.args.v.now in
    let a = c.self.inside in
    let es = a.proposals.entries in
    let notes = c.forget_vote.new.self in
    subst (λ (l : List (ActionId × Proposal)). IsStore l a.families a.added a.deposits × AreNoted notes (values_of l)) (sym c.drop_at.ensures) (
      IsStore-voted (changing id f) (changing_votes id f (dropping_votes c.args.v.now)) es a.families a.added a.deposits c.self.invariant.0,
      subst (λ (ps : List Proposal). AreNoted notes ps) (sym (values_each (changing id f) es))
          (AreNoted-dropped a.voted notes id c.args.v.now (values_of es) c.self.invariant.0.ordered c.forget_vote.ensures c.self.invariant.1),
    )
