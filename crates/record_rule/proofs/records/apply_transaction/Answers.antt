use Rattle.std.proofs.Common.{ap, ◌∙◌}
use Rattle.ledger_model.specs.Broken.{first_broken}
use Rattle.record_rule.proofs.Crossed.{tx_reports, tx_stepped}
use Rattle.record_rule.specs.declared.applied.Applied.{Applied}
use Rattle.record_rule.proofs.records.apply_transaction.Goals as goal

pub returns-clause-stepped : goal.returns-clause-stepped
returns-clause-stepped c =
    ap (λ (a : Applied). (a.ledger, a.reply)) c.within_epoch.ensures
    ∙ tx_stepped c.args.ledger c.args.tx.now c.in_ok-after.after c.in_ok-after.reply c.in_ok-after.ensures.ledger c.in_ok-after.ensures.reply

pub returns-clause-report : goal.returns-clause-report
returns-clause-report c =
    ap (λ (a : Applied). a.report) c.within_epoch.ensures
    ∙ tx_reports (first_broken c.args.ledger.ledger c.args.tx.now) c.args.ledger c.args.tx.now
