use Rattle.std.proofs.Common.{◌≡◌, Result, Err, sym, subst, rules}
use Rattle.cert_deleg.specs.of_draft_changes.Changed.{Changed}
use Rattle.tx_records.specs.declared.reply.TxFault.{TxFault}
use Rattle.ledger_model.specs.Broken.{body_checks, first_broken}
use Rattle.ledger_model.specs.Checks.{first_among}
use Rattle.ledger_model.specs.UtxoRules.{unless_failed, utxo_checks}
use Rattle.rule_checks.proofs.Faults.{faulted}
use Rattle.tx_rule.specs.Judged.{IsJudged}
use Rattle.tx_rule.proofs.Grouped.{two_groups}
use Rattle.tx_rule.proofs.changes_of.Goals as goal

pub returns-in_err-spent : goal.returns-in_err-spent
returns-in_err-spent c =
    let l = c.args.s.now.ledger in
    let tx = c.args.tx.now in
    let is : c.from_residual.result ≡ Err c.in_err-spent.field-0.0 = search rules in
    subst (λ (r : Result Changed TxFault). IsJudged r l tx) (sym is)
    (faulted (first_among (utxo_checks l tx)) (first_among (unless_failed tx.scripts (body_checks l tx))) (first_broken l tx) c.in_err-spent.field-0.0 (two_groups l tx) c.in_err-spent.ensures.rule)
