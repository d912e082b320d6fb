use Rattle.std.proofs.Common.{◌≡◌, IfOk, ap, subst, sym, ◌∙◌}
use Rattle.run_model.specs.Step.{step}
use Rattle.tx_records.specs.declared.record.Record.{Record}
use Rattle.tx_records.specs.declared.record.Record.TheVariants as records
use Rattle.tx_records.specs.declared.tx.Tx.{Tx}
use Rattle.conway_c.proofs.replies.reply_to_record.Goals as goal

pub returns-in-Tx : goal.returns-in-Tx
returns-in-Tx c =
    subst (λ (r : Record). IfOk c.reply_to_tx.result (λ reply. reply ≡ (step c.args.ledger.now r).1))
    (ap (λ (t : Tx). records.Tx t) c.get.ensures ∙ sym c.in-Tx.is) c.reply_to_tx.ensures
