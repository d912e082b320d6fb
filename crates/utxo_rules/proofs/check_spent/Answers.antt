use Rattle.std.proofs.Common.{◌≡◌, Result, Ok, Err, refl, sym, subst, rules}
use Rattle.tx_records.specs.declared.reply.TxFault.{TxFault}
use Rattle.tx_records.specs.declared.reply.TxFault.TheVariants.{Refused}
use Rattle.ledger_model.specs.Checks.{first_among}
use Rattle.ledger_model.specs.UtxoRules.{collateral_assets_checks, utxo_checks}
use Rattle.rule_checks.proofs.Faults.{answered_later, faulted, told}
use Rattle.rule_checks.specs.Answered.{IsAnswered}
use Rattle.utxo_rules.specs.declared.holdings.Spent.{Spent}
use Rattle.utxo_rules.specs.Plain.{plain_checks}
use Rattle.utxo_rules.specs.Spent.{without_value}
use Rattle.utxo_rules.proofs.Groups.{all_groups}
use Rattle.utxo_rules.proofs.check_spent.Goals as goal

pub returns-in_err-check_collateral_assets-in-Ok-clause-rule : goal.returns-in_err-check_collateral_assets-in-Ok-clause-rule
returns-in_err-check_collateral_assets-in-Ok-clause-rule c =
    let l = c.args.s.now.ledger in
    let tx = c.args.tx.now in
    let is : c.from_residual.result ≡ Err c.in_err-check_collateral_assets-in-Ok.field-0.0 = search rules in
    subst (λ (r : Result Spent TxFault). IsAnswered (first_among (utxo_checks l tx)) (without_value r)) (sym is)
    (answered_later (first_among (plain_checks l tx)) (first_among (collateral_assets_checks l tx)) (first_among (utxo_checks l tx)) (Err c.in_err-check_collateral_assets-in-Ok.field-0.0) (all_groups l tx) (told (plain_checks l tx) (Ok tt) (Ok tt) c.in-Ok.ensures.rule refl) c.in_err-check_collateral_assets-in-Ok.ensures.rule)

pub returns-in_ok-check_collateral_assets-in-Ok-clause-rule : goal.returns-in_ok-check_collateral_assets-in-Ok-clause-rule
returns-in_ok-check_collateral_assets-in-Ok-clause-rule c =
    let l = c.args.s.now.ledger in
    let tx = c.args.tx.now in
    answered_later (first_among (plain_checks l tx)) (first_among (collateral_assets_checks l tx)) (first_among (utxo_checks l tx)) (Ok tt) (all_groups l tx) (told (plain_checks l tx) (Ok tt) (Ok tt) c.in-Ok.ensures.rule refl) c.in_ok-check_collateral_assets-in-Ok.ensures.rule

pub returns-in-Err-clause-rule : goal.returns-in-Err-clause-rule
returns-in-Err-clause-rule c =
    let l = c.args.s.now.ledger in
    let tx = c.args.tx.now in
    faulted (first_among (plain_checks l tx)) (first_among (collateral_assets_checks l tx)) (first_among (utxo_checks l tx)) (Refused c.in-Err.rule) (all_groups l tx) (told (plain_checks l tx) (Err c.in-Err.rule) (Err (Refused c.in-Err.rule)) c.in-Err.ensures.rule refl)
