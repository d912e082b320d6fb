use Rattle.std.proofs.Common.{sym, subst}
use Rattle.std.proofs.lemmas.Result.{IfOk-weaker}
use Rattle.ledger_model.specs.Transaction.{ledger_after_tx}
use Rattle.run_model.specs.Step.{step}
use Rattle.run_model.specs.World.{on_ledger}
use Rattle.tx_records.specs.declared.record.Record.TheVariants as records
use Rattle.undo_before.proofs.Stepping.{accepted_held, refused_held}
use Rattle.undo_model.specs.Holds.{Holds}
use Rattle.undo_model.specs.Undone.{Before}
use Rattle.undo_before.proofs.records.before_tx.Goals as goal

pub returns-in-Ok : goal.returns-in-Ok
returns-in-Ok c =
    let w = c.args.s.now in
    let tx = c.args.tx.now in
    IfOk-weaker c.before_judged.result (λ (b : Before). Holds w b (on_ledger (λ l. ledger_after_tx l tx) w)) (λ (b : Before). Holds w b (step w (records.Tx tx)).0)
    (λ b held. accepted_held w tx b c.in-Ok.ensures.0 held) c.before_judged.ensures

pub returns-in-Err-Refused : goal.returns-in-Err-Refused
returns-in-Err-Refused c =
    let w = c.args.s.now in
    let tx = c.args.tx.now in
    subst (λ (b : Before). Holds w b (step w (records.Tx tx)).0) (sym c.before_other.ensures)
    (refused_held w tx (rw c.in-Err-Refused.field-0-is at c.in-Err-Refused.ensures))
