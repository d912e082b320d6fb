use Rattle.std.proofs.Common.{◌≡◌, ◌∙◌, List, IfOk, subst}
use Rattle.gov_actions.specs.declared.action.Proposal.{Proposal}
use Rattle.gov_model.specs.Kept.{kept_of}
use Rattle.gov_model.specs.Ratified.{ids_of}
use Rattle.lineage.proofs.Finding.{kept_in_order}
use Rattle.lineage.proofs.kept.kept_after.Goals as goal

pub returns : goal.returns
returns c =
    let store = c.args.store.now in
    let last = c.args.last.now in
    subst (λ (ps : List Proposal). IfOk c.kept_of_leaving.result (λ kept. kept.items ≡ ids_of ps))
    ((λ i. kept_of store (c.in_ok-set_of.ensures i) (c.in_ok-set_of-2.ensures i) last) ∙ kept_in_order store c.args.enacted.now c.args.expired.now last)
    c.kept_of_leaving.ensures
