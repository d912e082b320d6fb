use Rattle.std.proofs.Common.{◌≡◌, Err, ◌∙◌, rules, append-nil}
use Rattle.ledger_model.specs.Checks.{answer_of, per_place}
use Rattle.ledger_model.specs.UtxoRules.{output_checks}
use Rattle.rule_checks.specs.Places.{answer_at}
use Rattle.rule_checks.proofs.Firsts.{first_broken, last_left}
use Rattle.utxo_rules.proofs.outputs.check_outputs.Goals as goal

pub returns-in_err-check_each : goal.returns-in_err-check_each
returns-in_err-check_each c =
    let is : c.from_residual.result ≡ Err c.in_err-check_each.field-0.0 = search rules in
    let checks = output_checks c.args.s.now.ledger c.args.tx.now in
    is ∙ first_broken checks c.args.tx.now.outputs _ _ (c.in_err-check_each.ensures ∙ (λ i. answer_of (per_place checks (c.as_slice.ensures i))))

pub returns-in-Some : goal.returns-in-Some
returns-in-Some c =
    let checks = output_checks c.args.s.now.ledger c.args.tx.now in
    rw c.in-Some.is (
    last_left checks c.args.tx.now.outputs c.in-Some.output _ (c.in_ok-check_each.ensures ∙ (λ i. answer_of (per_place checks (c.as_slice.ensures i))))
    (c.answer_at.ensures ∙ (λ i. answer_at (c.len-place.ensures i) (c.check.ensures i)))
    )

pub returns-in-None : goal.returns-in-None
returns-in-None c =
    let checks = output_checks c.args.s.now.ledger c.args.tx.now in
    rw (c.in-None.is, append-nil) (c.in_ok-check_each.ensures ∙ (λ i. answer_of (per_place checks (c.as_slice.ensures i))))
