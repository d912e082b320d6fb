use Rattle.std.proofs.Common.{◌≡◌, ◌++◌, OnOk, Option, map, sym, subst, ◌∙◌}
use Rattle.std.specs.Prelude.{option_to_list}
use Rattle.ledger_model.specs.Checks.{at_place, per_place}
use Rattle.ledger_model.specs.UtxoRules.{output_checks}
use Rattle.rule_checks.specs.Told.{told_with}
use Rattle.tx_records.specs.declared.tx.TxOutput.{TxOutput}
use Rattle.utxo_rules.proofs.Telling.{last_told, onward}
use Rattle.utxo_rules.proofs.outputs.tell_outputs.Goals as goal

pub returns-in-Some : goal.returns-in-Some
returns-in-Some c =
    let tx = c.args.tx.now in
    let checks = output_checks c.args.s.now.ledger tx in
    let first = c.in_ok-tell_each.ensures ∙ (λ i. told_with (per_place checks (c.as_slice.ensures i)) c.args.told.now) in
    subst (λ (o : Option TxOutput). OnOk c.tell.result (c.tell.new.told ≡ told_with (per_place checks (tx.outputs ++ option_to_list o)) c.args.told.now)) (sym c.in-Some.is)
    (onward c.tell.result
    (λ e. last_told checks tx.outputs c.in-Some.output c.args.told.now c.tell_each.new.told c.tell.new.told first
    (e ∙ (λ i. told_with (map (at_place (c.len.ensures i)) (checks (c.len.ensures i) c.in-Some.output)) c.tell_each.new.told)))
    c.tell.ensures)
