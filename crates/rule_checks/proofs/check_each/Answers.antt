use Rattle.std.proofs.Common.{◌≡◌, Result, Err, ap, ◌∙◌, rules}
use Rattle.std.specs.Prelude.{⊤}
use Rattle.tx_records.specs.declared.reply.Rule.{Rule}
use Rattle.ledger_model.specs.Checks.{answer_of}
use Rattle.rule_checks.specs.Places.{answer_at}
use Rattle.rule_checks.proofs.Firsts.{item_broken, item_passed}
use Rattle.rule_checks.proofs.check_each.Goals as goal

pub returns-in_err-answer_at : goal.returns-in_err-answer_at
returns-in_err-answer_at g c =
    let checks = g.R.ItemRules.checks c.args.rules.now in
    let i = c.loop-place.place in
    let is : c.from_residual.result ≡ Err c.in_err-answer_at.field-0.0 = search rules in
    is
    ∙ item_broken checks c.args.items.now i c.index-items-place.result c.in_err-answer_at.field-0.0 c.loop-place-test.true
    (c.in_err-answer_at.ensures ∙ ap (λ (a : Result ⊤ Rule). answer_at i a) (c.check.ensures ∙ (λ j. answer_of (checks i (c.index-items-place.is j)))))
    ∙ c.loop-place.invariant

pub loop-place-preserved : goal.loop-place-preserved
loop-place-preserved g c =
    let checks = g.R.ItemRules.checks c.args.rules.now in
    let i = c.loop-place.place in
    item_passed checks c.args.items.now i c.index-items-place.result c.loop-place-test.true
    (c.in_ok-answer_at.ensures ∙ ap (λ (a : Result ⊤ Rule). answer_at i a) (c.check.ensures ∙ (λ j. answer_of (checks i (c.index-items-place.is j)))))
    ∙ c.loop-place.invariant
