use Rattle.std.proofs.Common.{◌≡◌, List, OnOk, sym, subst}
use Rattle.explain_model.specs.Broken.{broken_by}
use Rattle.ledger_model.specs.Broken.{tx_checks}
use Rattle.rule_checks.specs.Told.{told_with}
use Rattle.tx_records.specs.declared.record.Record.{Record}
use Rattle.tx_records.specs.declared.reply.Rule.{Rule}
use Rattle.all_broken.proofs.tell.Goals as goal

pub returns-in-Tx : goal.returns-in-Tx
returns-in-Tx c =
    let l = c.args.ledger.now in
    subst (λ (r : Record). OnOk c.tell_broken.result (c.tell_broken.new.told ≡ broken_by l r)) (sym c.in-Tx.is)
    (subst (λ (rules : List Rule). OnOk c.tell_broken.result (c.tell_broken.new.told ≡ rules)) (λ i. told_with (tx_checks l.ledger (c.get.ensures i)) (c.requires.none i)) c.tell_broken.ensures)
