use Rattle.std.proofs.Common.{ap, sym, subst, ◌∙◌}
use Rattle.ledger_model.specs.Transaction.{ledger_after_tx}
use Rattle.run_model.specs.World.{on_ledger}
use Rattle.undo_before.proofs.Passed.{tx_held}
use Rattle.undo_model.specs.Holds.{Holds}
use Rattle.undo_model.specs.Undone.{Before}
use Rattle.undo_records.specs.declared.OldValues.{OldValues}
use Rattle.undo_records.specs.Parts.{before_of}
use Rattle.undo_before.proofs.transactions.before_judged.Goals as goal

pub returns : goal.returns
returns c =
    let w = c.args.s.now in
    let tx = c.args.tx.now in
    let olds = c.in_ok-entries.entries in
    let is = c.of_parts.ensures ∙ ap (λ (v : OldValues). before_of v olds) c.old_values.ensures in
    subst (λ (b : Before). Holds w b (on_ledger (λ l. ledger_after_tx l tx) w)) (sym is)
    (tx_held w tx c.args.changes.now olds c.requires.judged.0 c.requires.judged.1 c.in_ok-entries.ensures)
