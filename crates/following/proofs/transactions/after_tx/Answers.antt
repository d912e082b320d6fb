use Rattle.std.proofs.Common.{Ok, ap, subst, sym, ◌∙◌}
use Rattle.ledger_model.specs.Broken.{first_broken}
use Rattle.run_model.specs.World.{World}
use Rattle.tx_records.specs.declared.record.Record.TheVariants as records
use Rattle.undo_before.specs.of_tx_rule.Judged.{IsJudged}
use Rattle.following.proofs.Moving.{refused}
use Rattle.following.proofs.transactions.after_tx.Goals as goal

pub after_judged-requires-clause-judged : goal.after_judged-requires-clause-judged
after_judged-requires-clause-judged c =
    subst (λ (w : World). IsJudged (Ok c.in-Ok.changes) w.ledger c.args.tx.now) c.ledger.ensures c.in-Ok.ensures

pub returns-in-Err-Refused : goal.returns-in-Err-Refused
returns-in-Err-Refused c =
    let broken = rw c.in-Err-Refused.field-0-is at c.in-Err-Refused.ensures in
    rw c.in-Err-Refused.field-0-is
    (refused c.args.state.held.ledger c.args.state.log (records.Tx c.args.tx.now) c.in-Err-Refused.rule
    (sym (ap (λ (w : World). first_broken w.ledger c.args.tx.now) c.ledger.ensures) ∙ broken))
