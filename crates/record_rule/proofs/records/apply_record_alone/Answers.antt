use Rattle.std.proofs.Common.{◌≡◌, IfOk, ap, subst, sym, ◌∙◌}
use Rattle.record_rule.specs.Reports.{report_of_record}
use Rattle.record_rule.specs.declared.applied.Applied.{Applied}
use Rattle.run_model.specs.Step.{step}
use Rattle.tx_records.specs.declared.record.Record.{Record}
use Rattle.tx_records.specs.declared.record.Record.TheVariants as records
use Rattle.tx_records.specs.declared.tx.Tx.{Tx}
use Rattle.record_rule.proofs.records.apply_record_alone.Goals as goal

pub returns-in-Tx-clause-stepped : goal.returns-in-Tx-clause-stepped
returns-in-Tx-clause-stepped c =
    subst (λ (r : Record). IfOk c.apply_transaction.result (λ (a : Applied). (a.ledger, a.reply) ≡ step c.args.ledger r))
    (ap (λ (t : Tx). records.Tx t) c.get.ensures ∙ sym c.in-Tx.is)
    c.apply_transaction.ensures.stepped

pub returns-in-Tx-clause-report : goal.returns-in-Tx-clause-report
returns-in-Tx-clause-report c =
    subst (λ (r : Record). IfOk c.apply_transaction.result (λ (a : Applied). a.report ≡ report_of_record c.args.ledger r))
    (ap (λ (t : Tx). records.Tx t) c.get.ensures ∙ sym c.in-Tx.is)
    c.apply_transaction.ensures.report
