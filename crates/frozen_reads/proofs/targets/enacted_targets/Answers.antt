use Rattle.std.proofs.Common.{◌≡◌, ℕ, List, IfOk, ap, subst, ◌∙◌}
use Rattle.gov_actions.specs.declared.action.Proposal.{Proposal}
use Rattle.gov_ids.specs.declared.Account.{Account}
use Rattle.gov_ids.specs.declared.ActionId.{ActionId}
use Rattle.frozen_reads.specs.Targets.{targets_among}
use Rattle.frozen_reads.proofs.Targeted.{among_set, found_in_order}
use Rattle.frozen_reads.proofs.targets.enacted_targets.Goals as goal

pub returns : goal.returns
returns c =
    let ps : List Proposal = c.args.proposals.now in
    let ids : List ActionId = c.args.ratified.now in
    subst (λ (ts : List (Account × ℕ)). IfOk c.targets_among.result (λ l. l.items ≡ ts))
    (ap (λ (keys : List ActionId). targets_among keys ps) c.in_ok-ratified.ensures ∙ among_set ids ps ∙ found_in_order ids ps)
    c.targets_among.ensures
