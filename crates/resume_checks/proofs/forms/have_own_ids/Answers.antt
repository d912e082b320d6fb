use Rattle.std.proofs.Common.{refl, ◌∙◌}
use Rattle.gov_ids.specs.Orders.{action_id_cmp}
use Rattle.gov_ids.proofs.Repeats.{seen_none, seen_step}
use Rattle.gov_ids.proofs.Totals.{action_id_total}
use Rattle.gov_actions.specs.declared.action.Proposal.{Proposal}
use Rattle.resume_checks.proofs.forms.have_own_ids.Goals as goal

pub loop-proposal-init : goal.loop-proposal-init
loop-proposal-init c = seen_none {cmp = action_id_cmp} refl (λ (p : Proposal). p.id) c.new-ids.result.keys c.args.proposals.now c.new-ids.ensures.empty

pub loop-proposal-preserved : goal.loop-proposal-preserved
loop-proposal-preserved c =
    seen_step {cmp = action_id_cmp} refl (λ (p : Proposal). p.id) c.loop-proposal.ids.keys c.args.proposals.now c.loop-proposal.proposal-index c.proposal-item.result
    c.loop-proposal-test.true c.proposal-item.is refl c.in_ok-insert.ensures.added action_id_total c.if-not-branch.false c.insert.new.self.keys c.in_ok-insert.ensures.keys
    ∙ c.loop-proposal.invariant
