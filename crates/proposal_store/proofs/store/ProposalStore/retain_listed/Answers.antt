use Rattle.std.proofs.Common.{filter, not, ◌∙◌}
use Rattle.std.proofs.lemmas.Result.{IfOk-weaker, on_ok_weaker}
use Rattle.proposal_store.proofs.Retaining.{listed}
use Rattle.proposal_store.proofs.store.ProposalStore.retain_listed.Goals as goal

pub returns-clause-kept : goal.returns-clause-kept
returns-clause-kept c =
    let all = c.into_proposals.ensures.proposals ∙ c.replace-old.ensures.value in
    on_ok_weaker c.refill.result
    (λ h. h ∙ (λ i. filter (λ p. listed c.args.keep.now c.in_ok-keep.keep.keys p c.in_ok-keep.ensures i) (all i)))
    c.refill.ensures.kept

pub returns-clause-removed : goal.returns-clause-removed
returns-clause-removed c =
    let all = c.into_proposals.ensures.proposals ∙ c.replace-old.ensures.value in
    IfOk-weaker c.refill.result _ _
    (λ r h. h ∙ (λ i. filter (λ p. not (listed c.args.keep.now c.in_ok-keep.keep.keys p c.in_ok-keep.ensures i)) (all i)))
    c.refill.ensures.removed
