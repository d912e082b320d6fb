use Rattle.std.proofs.Common.{◌≡◌, Result, Err, ap, ◌∙◌, rules}
use Rattle.rule_checks.proofs.Groups.{now, later}
use Rattle.tx_records.specs.declared.reply.Rule.{Rule}
use Rattle.utxo_rules.specs.declared.holdings.Spent.{Spent}
use Rattle.utxo_rules.specs.Spent.{without_value}
use Rattle.utxo_rules.proofs.Groups.{plain_answer}
use Rattle.utxo_rules.proofs.check_plain.Goals as goal

pub returns-in_err-check_id-clause-rule : goal.returns-in_err-check_id-clause-rule
returns-in_err-check_id-clause-rule c =
    let is : c.from_residual.result ≡ Err c.in_err-check_id.field-0.0 = search rules in
    ap (λ (r : Result Spent Rule). without_value r) is ∙ plain_answer c.args.s.now.ledger c.args.tx.now _ (now _ _ _ c.in_err-check_id.ensures)

pub returns-in_err-spent-clause-rule : goal.returns-in_err-spent-clause-rule
returns-in_err-spent-clause-rule c =
    let is : c.from_residual-in_err-spent.result ≡ Err c.in_err-spent.field-0.0 = search rules in
    ap (λ (r : Result Spent Rule). without_value r) is ∙ plain_answer c.args.s.now.ledger c.args.tx.now _ (later _ _ _ c.in_ok-check_id.ensures (now _ _ _ c.in_err-spent.ensures.rule))

pub returns-in_err-check_fee-clause-rule : goal.returns-in_err-check_fee-clause-rule
returns-in_err-check_fee-clause-rule c =
    let is : c.from_residual-in_err-check_fee.result ≡ Err c.in_err-check_fee.field-0.0 = search rules in
    ap (λ (r : Result Spent Rule). without_value r) is ∙ plain_answer c.args.s.now.ledger c.args.tx.now _ (later _ _ _ c.in_ok-check_id.ensures (later _ _ _ c.in_ok-spent.ensures.rule (now _ _ _ c.in_err-check_fee.ensures)))

pub returns-in_err-check_outputs-clause-rule : goal.returns-in_err-check_outputs-clause-rule
returns-in_err-check_outputs-clause-rule c =
    let is : c.from_residual-in_err-check_outputs.result ≡ Err c.in_err-check_outputs.field-0.0 = search rules in
    ap (λ (r : Result Spent Rule). without_value r) is ∙ plain_answer c.args.s.now.ledger c.args.tx.now _ (later _ _ _ c.in_ok-check_id.ensures (later _ _ _ c.in_ok-spent.ensures.rule (later _ _ _ c.in_ok-check_fee.ensures (now _ _ _ c.in_err-check_outputs.ensures))))

pub returns-in_err-check_collateral_list-clause-rule : goal.returns-in_err-check_collateral_list-clause-rule
returns-in_err-check_collateral_list-clause-rule c =
    let is : c.from_residual-in_err-check_collateral_list.result ≡ Err c.in_err-check_collateral_list.field-0.0 = search rules in
    ap (λ (r : Result Spent Rule). without_value r) is ∙ plain_answer c.args.s.now.ledger c.args.tx.now _ (later _ _ _ c.in_ok-check_id.ensures (later _ _ _ c.in_ok-spent.ensures.rule (later _ _ _ c.in_ok-check_fee.ensures (later _ _ _ c.in_ok-check_outputs.ensures (now _ _ _ c.in_err-check_collateral_list.ensures)))))

pub returns-in_err-check_collateral-clause-rule : goal.returns-in_err-check_collateral-clause-rule
returns-in_err-check_collateral-clause-rule c =
    let is : c.from_residual-in_err-check_collateral.result ≡ Err c.in_err-check_collateral.field-0.0 = search rules in
    ap (λ (r : Result Spent Rule). without_value r) is ∙ plain_answer c.args.s.now.ledger c.args.tx.now _ (later _ _ _ c.in_ok-check_id.ensures (later _ _ _ c.in_ok-spent.ensures.rule (later _ _ _ c.in_ok-check_fee.ensures (later _ _ _ c.in_ok-check_outputs.ensures (later _ _ _ c.in_ok-check_collateral_list.ensures (now _ _ _ c.in_err-check_collateral.ensures))))))

pub returns-in_err-check_collateral_sum-clause-rule : goal.returns-in_err-check_collateral_sum-clause-rule
returns-in_err-check_collateral_sum-clause-rule c =
    let is : c.from_residual-in_err-check_collateral_sum.result ≡ Err c.in_err-check_collateral_sum.field-0.0 = search rules in
    ap (λ (r : Result Spent Rule). without_value r) is ∙ plain_answer c.args.s.now.ledger c.args.tx.now _ (later _ _ _ c.in_ok-check_id.ensures (later _ _ _ c.in_ok-spent.ensures.rule (later _ _ _ c.in_ok-check_fee.ensures (later _ _ _ c.in_ok-check_outputs.ensures (later _ _ _ c.in_ok-check_collateral_list.ensures (later _ _ _ c.in_ok-check_collateral.ensures (now _ _ _ c.in_err-check_collateral_sum.ensures)))))))

pub returns-in_err-check_treasury-clause-rule : goal.returns-in_err-check_treasury-clause-rule
returns-in_err-check_treasury-clause-rule c =
    let is : c.from_residual-in_err-check_treasury.result ≡ Err c.in_err-check_treasury.field-0.0 = search rules in
    ap (λ (r : Result Spent Rule). without_value r) is ∙ plain_answer c.args.s.now.ledger c.args.tx.now _ (later _ _ _ c.in_ok-check_id.ensures (later _ _ _ c.in_ok-spent.ensures.rule (later _ _ _ c.in_ok-check_fee.ensures (later _ _ _ c.in_ok-check_outputs.ensures (later _ _ _ c.in_ok-check_collateral_list.ensures (later _ _ _ c.in_ok-check_collateral.ensures (later _ _ _ c.in_ok-check_collateral_sum.ensures c.in_err-check_treasury.ensures)))))))

pub returns-clause-rule : goal.returns-clause-rule
returns-clause-rule c = plain_answer c.args.s.now.ledger c.args.tx.now _ (later _ _ _ c.in_ok-check_id.ensures (later _ _ _ c.in_ok-spent.ensures.rule (later _ _ _ c.in_ok-check_fee.ensures (later _ _ _ c.in_ok-check_outputs.ensures (later _ _ _ c.in_ok-check_collateral_list.ensures (later _ _ _ c.in_ok-check_collateral.ensures (later _ _ _ c.in_ok-check_collateral_sum.ensures c.in_ok-check_treasury.ensures)))))))
