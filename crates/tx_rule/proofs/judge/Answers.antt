use Rattle.std.proofs.Common.{◌≡◌, Result, Err, sym, subst, rules}
use Rattle.std.specs.Prelude.{⊤}
use Rattle.tx_records.specs.declared.reply.TxFault.{TxFault}
use Rattle.ledger_model.specs.Broken.{first_broken}
use Rattle.rule_checks.specs.Answered.{IsAnswered}
use Rattle.tx_rule.proofs.judge.Goals as goal

pub returns-in_err-judged : goal.returns-in_err-judged
returns-in_err-judged c =
    let is : c.from_residual.result ≡ Err c.in_err-judged.field-0.0 = search rules in
    record { rule = subst (λ (r : Result ⊤ TxFault). IsAnswered (first_broken c.args.s.now.ledger c.args.tx.now) r) (sym is) c.in_err-judged.ensures }

pub returns : goal.returns
returns c = record { rule = c.in_ok-judged.ensures.0 }
