use Rattle.std.proofs.Common.{List, ap, ◌∙◌}
use Rattle.std.proofs.lemmas.Result.{on_ok_weaker}
use Rattle.tx_records.specs.declared.reply.Rule.{Rule}
use Rattle.ledger_model.specs.Broken.{body_checks}
use Rattle.ledger_model.specs.Ledger.{Ledger}
use Rattle.ledger_model.specs.UtxoRules.{unless_failed, utxo_checks}
use Rattle.rule_checks.specs.Told.{told_with}
use Rattle.rule_checks.proofs.Telling.{told_both}
use Rattle.tx_rule.proofs.broken.tell_broken.Goals as goal

pub returns : goal.returns
returns c =
    let l = c.args.s.now.ledger in
    let tx = c.args.tx.now in
    on_ok_weaker c.tell_body.result
    (λ done. done
    ∙ ap (λ (x : Ledger). told_with (unless_failed tx.scripts (body_checks x tx)) c.tell_spent.new.told) c.live-2.ensures.ledger
    ∙ ap (λ (told : List Rule). told_with (unless_failed tx.scripts (body_checks l tx)) told) (c.in_ok-spent.ensures.rules ∙ ap (λ (x : Ledger). told_with (utxo_checks x tx) c.args.told.now) c.live.ensures.ledger)
    ∙ told_both (utxo_checks l tx) (unless_failed tx.scripts (body_checks l tx)) c.args.told.now)
    c.tell_body.ensures
