use Rattle.std.proofs.Common.{◌≡◌, List, OnOk, ap, subst, ◌∙◌}
use Rattle.gov_actions.specs.declared.action.Proposal.{Proposal}
use Rattle.gov_ids.specs.declared.ActionId.{ActionId}
use Rattle.gov_model.specs.Proposals.{those_of}
use Rattle.epoch_pass.proofs.Cuts.{kept_are_kept}
use Rattle.epoch_pass.proofs.removals.cut.Goals as goal

pub returns-clause-kept : goal.returns-clause-kept
returns-clause-kept c =
    let ps : List Proposal = c.args.proposals.now in
    subst (λ (kept : List Proposal). OnOk c.retain_listed.result (c.retain_listed.new.self ≡ kept))
    (ap (λ (ids : List ActionId). those_of ids ps) (c.as_slice.ensures.value ∙ c.in_ok-kept.ensures) ∙ kept_are_kept ps c.args.ratified.now c.args.expired.now c.args.last.now c.len-distinct.ensures.distinct)
    c.retain_listed.ensures.kept
