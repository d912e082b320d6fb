use Rattle.std.proofs.Common.{◌∙◌}
use Rattle.rule_checks.specs.Told.{told_with}
use Rattle.utxo_rules.proofs.Telling.{all_told}
use Rattle.utxo_rules.proofs.told_rules.tell_spent.Goals as goal

pub returns-clause-rules : goal.returns-clause-rules
returns-clause-rules c =
    all_told c.args.s.now.ledger c.args.tx.now _ _ _ _ _ _ _ _ _ _
    (c.in_ok-add.ensures ∙ (λ i. told_with (c.id_checks.ensures i) c.args.told.now))
    c.in_ok-tell_inputs.ensures
    (c.in_ok-add-2.ensures ∙ (λ i. told_with (c.fee_checks.ensures i) c.tell_inputs.new.told))
    c.in_ok-tell_outputs.ensures
    (c.in_ok-add-3.ensures ∙ (λ i. told_with (c.collateral_list_checks.ensures i) c.tell_outputs.new.told))
    c.in_ok-tell_collateral.ensures
    (c.in_ok-add-4.ensures ∙ (λ i. told_with (c.collateral_sum_checks.ensures i) c.tell_collateral.new.told))
    c.in_ok-tell_treasury.ensures
    (c.in_ok-add-5.ensures ∙ (λ i. told_with (c.in_ok-collateral_assets_checks.ensures.checks i) c.tell_treasury.new.told))
