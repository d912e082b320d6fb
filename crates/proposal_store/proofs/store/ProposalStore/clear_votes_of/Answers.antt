use Rattle.std.proofs.Common.{List, drop, map, ◌+◌, ap, sym, ◌∙◌}
use Rattle.gov_actions.specs.declared.action.Proposal.{Proposal}
use Rattle.proposal_store.specs.Leaving.{without_votes_of}
use Rattle.proposal_store.proofs.Leavers.{leave_done, leave_next}
use Rattle.proposal_store.proofs.store.ProposalStore.clear_votes_of.Goals as goal

pub loop-drep-preserved : goal.loop-drep-preserved
loop-drep-preserved c =
    let dreps = c.args.dreps.now in
    let i = c.loop-drep.drep-index in
    ap (λ (ps : List Proposal). map (without_votes_of (drop (i + 1) dreps)) ps) c.clear_one.ensures.cleared
    ∙ leave_next dreps i _ c.loop-drep-test.true c.loop-drep.self c.clear_one.ensures.ordered
    ∙ c.loop-drep.invariant

pub returns : goal.returns
returns c = sym (leave_done c.args.dreps.now c.loop-drep.drep-index c.loop-drep-test.false c.loop-drep.self) ∙ c.loop-drep.invariant
