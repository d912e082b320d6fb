use Rattle.std.proofs.Common.{◌≡◌, ℕ, ◌+◌, ◌<◌, List, [], ◌∷◌, ◌++◌, Bool, ◌&&◌, Option, option_map, drop, get_or, length, take, ap, sym, ◌∙◌}
use Rattle.gov_ids.specs.declared.ActionId.{ActionId}
use Rattle.gov_ids.specs.Orders.{action_id_cmp}
use Rattle.gov_actions.specs.declared.action.Proposal.{Proposal}
use Rattle.gov_actions.specs.declared.action.Purpose.{Purpose}
use Rattle.gov_actions.specs.declared.state.LastIds.{LastIds}
use Rattle.gov_model.specs.Lineage.{may_follow}
use Rattle.gov_model.specs.Proposals.{proposal_of}
use Rattle.maps.specs.Maps.{value_at}
use Rattle.resume_checks.specs.Purposes.{follows_among}
use Rattle.resume_checks.proofs.Following.{Knows, all_follow, follows_is, knows_more, next, purpose_in, taken}
use Rattle.resume_checks.proofs.chains.all_follow.Goals as goal

-- what is left, by the answer on the next proposal
module _ (last : LastIds) (ps : List Proposal) (i : ℕ) (p : Proposal) (l : i < length ps) (at : p ≡ get_or ps i p) (es : List (ActionId × Option Purpose)) (known : Knows es (take i ps)) where
  left_by : (b : Bool) → follows_among es last p.action ≡ b → all_follow last (take i ps) (drop i ps) ≡ (b && all_follow last (take (i + 1) ps) (drop (i + 1) ps))
  left_by b answer =
      next last ps i p l
      ∙ ap (λ (t : Bool). t && all_follow last (take (i + 1) ps) (drop (i + 1) ps)) (ap (λ (q : Proposal). may_follow (take i ps) last q.action) (sym at) ∙ sym (follows_is es (take i ps) known last p.action) ∙ answer)

pub returns-then-not-may_follow : goal.returns-then-not-may_follow
returns-then-not-may_follow c =
    sym (left_by c.args.last.now c.args.proposals.now c.loop-proposal.proposal-index c.proposal-item.result c.loop-proposal-test.true c.proposal-item.is c.loop-proposal.purposes.entries c.loop-proposal.invariant.known _
    (sym c.may_follow.ensures ∙ c.if-not-may_follow.true))
    ∙ c.loop-proposal.invariant.left

pub loop-proposal-preserved : goal.loop-proposal-preserved
loop-proposal-preserved c =
    let ps : List Proposal = c.args.proposals.now in
    let i : ℕ = c.loop-proposal.proposal-index in
    let p : Proposal = c.proposal-item.result in
    let es : List (ActionId × Option Purpose) = c.loop-proposal.purposes.entries in
    let more : take (i + 1) ps ≡ take i ps ++ p ∷ [] = taken c.args.last.now ps i p c.loop-proposal-test.true ∙ ap (λ (q : Proposal). take i ps ++ q ∷ []) (sym c.proposal-item.is) in
    record {
      known = λ id.
          ap (λ (s : List (ActionId × Option Purpose)). value_at action_id_cmp s id) c.in_ok-add.ensures
          ∙ knows_more es p (take i ps) c.loop-proposal.invariant.known id
          ∙ ap (λ (qs : List Proposal). option_map purpose_in (proposal_of id qs)) (sym more);
      left =
          sym (left_by c.args.last.now ps i p c.loop-proposal-test.true c.proposal-item.is es c.loop-proposal.invariant.known _ (sym c.may_follow.ensures ∙ c.if-not-may_follow.false))
          ∙ c.loop-proposal.invariant.left;
    }
