use Rattle.std.proofs.Common.{◌≡◌, Err, ap, ◌∙◌, rules}
use Rattle.ledger_model.specs.Checks.{answer_of}
use Rattle.ledger_model.specs.Ledger.{Ledger}
use Rattle.proposal_rules.specs.Parts.{lineage_checks}
use Rattle.proposal_rules.proofs.Parts.{action_next, lineage_last}
use Rattle.proposal_rules.proofs.proposal.ProposalsItemRules.check.Goals as goal

pub returns-in_err-check_action : goal.returns-in_err-check_action
returns-in_err-check_action c =
    let is : c.from_residual-in_err-check_action.result ≡ Err c.in_err-check_action.field-0.0 = search rules in
    is
    ∙ action_next c.args.self.now.d.now.start c.args.self.now.d.now.ledger c.args._place c.args.p.now c.in_err-check_action.field-0.0 (c.in_ok-first_of.ensures ∙ ap answer_of c.deposit_checks.ensures) c.in_err-check_action.ensures

pub returns : goal.returns
returns c =
    let follows = c.lineage_checks.ensures ∙ ap (λ (l : Ledger). lineage_checks l c.args.p.now.action) c.start.ensures.start in
    lineage_last c.args.self.now.d.now.start c.args.self.now.d.now.ledger c.args._place c.args.p.now c.first_of-2.result (c.in_ok-first_of.ensures ∙ ap answer_of c.deposit_checks.ensures) c.in_ok-check_action.ensures (c.first_of-2.ensures ∙ ap answer_of follows)
