use Rattle.std.proofs.Common.{◌≡◌, List, ap, sym, ◌∙◌, rules}
use Rattle.gov_actions.specs.declared.action.Proposal.{Proposal}
use Rattle.gov_actions.specs.declared.action.Vote.{Vote}
use Rattle.gov_ids.specs.declared.Voter.{Voter}
use Rattle.gov_ids.specs.declared.Voter.TheVariants.{Drep}
use Rattle.gov_ids.specs.Orders.{voter_cmp}
use Rattle.maps.specs.Maps.{has_key}
use Rattle.proposal_store.specs.Voted.{has_vote, noted_of}
use Rattle.proposal_store.proofs.VotesNoted.{Votes, left_next, left_once, left_out}
use Rattle.proposal_store.proofs.live.LiveProposal.forget_votes.Goals as goal

pub forget_vote-requires : goal.forget_vote-requires
forget_vote-requires c = c.loop-v.invariant.2

pub loop-v-init : goal.loop-v-init
loop-v-init c =
    let start : ◌≡◌ {A = List (Voter × Vote)} c.into_iter-v-iterator.result c.self.inside.votes.entries = search rules in
    (tt, tt, c.requires, λ q. ap (λ (es : Votes). left_out (has_key voter_cmp es (Drep q)) c.self.inside.proposal.id (noted_of c.args.voted.now q)) start)

pub loop-v-preserved : goal.loop-v-preserved
loop-v-preserved c = (
  tt,
  tt,
  left_once _ _ _ _ _ _ _ c.in-Some.ensures.steps c.forget_vote.ensures c.loop-v.invariant.2,
  λ q. left_next _ _ _ _ _ _ _ c.in-Some.ensures.steps c.forget_vote.ensures c.loop-v.invariant.2 q ∙ c.loop-v.invariant.3 q,
)

pub returns-clause-without : goal.returns-clause-without
returns-clause-without c = λ q.
    ap (λ (es : Votes). left_out (has_key voter_cmp es (Drep q)) c.self.inside.proposal.id (noted_of c.loop-v.voted q)) (sym c.in-None.ensures.steps.0)
    ∙ c.loop-v.invariant.3 q
    ∙ ap (λ (p : Proposal). left_out (has_vote q p) p.id (noted_of c.args.voted.now q)) c.self.view_is

pub returns-clause-once : goal.returns-clause-once
returns-clause-once c = c.loop-v.invariant.2
