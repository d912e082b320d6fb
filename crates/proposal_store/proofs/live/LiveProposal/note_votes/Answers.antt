use Rattle.std.proofs.Common.{◌≡◌, List, ap, subst, sym, ◌∙◌, rules}
use Rattle.gov_actions.specs.declared.action.Proposal.{Proposal}
use Rattle.gov_actions.specs.declared.action.Vote.{Vote}
use Rattle.gov_ids.specs.declared.Voter.{Voter}
use Rattle.gov_ids.specs.declared.Voter.TheVariants.{Drep}
use Rattle.gov_ids.specs.Orders.{voter_cmp}
use Rattle.maps.specs.Maps.{IsMap, has_key}
use Rattle.proposal_store.specs.Voted.{has_vote, is_noted, noted_of}
use Rattle.proposal_store.proofs.Noting.{Notes}
use Rattle.proposal_store.proofs.VotesNoted.{Votes, fresh_next, left_out, once_next, put_in, put_next, rest_ordered, undone_by}
use Rattle.proposal_store.proofs.live.LiveProposal.note_votes.Goals as goal

pub loop-v-init : goal.loop-v-init
loop-v-init c =
    let start : ◌≡◌ {A = List (Voter × Vote)} c.into_iter-v-iterator.result c.self.inside.votes.entries = search rules in
    let ordered = subst (λ (p : Proposal). IsMap voter_cmp p.votes) (sym c.self.view_is) c.requires.ordered in (
      tt,
      tt,
      subst (λ (es : Votes). IsMap voter_cmp es) (sym start) ordered,
      c.requires.once,
      λ q _. ap (λ (p : Proposal). is_noted c.args.voted.now q p.id) c.self.view_is ∙ c.requires.fresh q,
      λ q. ap (λ (es : Votes). put_in (has_key voter_cmp es (Drep q)) c.self.inside.proposal.id (noted_of c.args.voted.now q)) start,
    )

pub loop-v-preserved : goal.loop-v-preserved
loop-v-preserved c =
    let put = c.in-Ok.ensures.ok in
    let steps = c.in-Some.ensures.steps in
    let m = c.loop-v.invariant in (
      tt,
      tt,
      rest_ordered _ _ _ _ steps m.2,
      once_next _ _ _ _ _ _ _ steps put m.2 m.4 m.3,
      fresh_next _ _ _ _ _ _ _ steps put m.2 m.4,
      λ q. put_next _ _ _ _ _ _ _ steps put m.2 m.4 q ∙ m.5 q,
    )

pub returns-clause-ok : goal.returns-clause-ok
returns-clause-ok c = λ q.
    ap (λ (es : Votes). put_in (has_key voter_cmp es (Drep q)) c.self.inside.proposal.id (noted_of c.loop-v.voted q)) (sym c.in-None.ensures.steps.0)
    ∙ c.loop-v.invariant.5 q
    ∙ ap (λ (p : Proposal). put_in (has_vote q p) p.id (noted_of c.args.voted.now q)) c.self.view_is

pub returns-in_default-clause-err : goal.returns-in_default-clause-err
returns-in_default-clause-err c = λ q.
    let p = c.args.self.now in
    let old = noted_of c.args.voted.now q in
    let now = noted_of c.loop-v.voted q in
    let kept = subst (λ (x : Proposal). put_in (has_key voter_cmp c.loop-v.v-iterator (Drep q)) x.id now ≡ put_in (has_vote q x) x.id old) c.self.view_is (c.loop-v.invariant.5 q) in
    c.forget_votes.ensures.without q
    ∙ ap (λ (notes : Notes). left_out (has_vote q p) p.id (noted_of notes q)) c.in_default.ensures.err
    ∙ undone_by (has_vote q p) (has_key voter_cmp c.loop-v.v-iterator (Drep q)) p.id old now (c.requires.fresh q) kept
