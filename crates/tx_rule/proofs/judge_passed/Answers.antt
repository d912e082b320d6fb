use Rattle.std.proofs.Common.{◌≡◌, Result, Err, None, refl, ap, sym, subst, ◌∙◌, rules}
use Rattle.std.specs.Prelude.{⊤}
use Rattle.tx_records.specs.declared.reply.TxFault.{TxFault}
use Rattle.ledger_model.specs.Broken.{body_checks}
use Rattle.ledger_model.specs.Changes.{refreshed, withdrawn}
use Rattle.ledger_model.specs.Checks.{first_among}
use Rattle.ledger_model.specs.Draft.{draft_after}
use Rattle.ledger_model.specs.Ledger.{Ledger}
use Rattle.cert_deleg.specs.of_live_ledger.Drafts.{Drafted}
use Rattle.rule_checks.specs.Answered.{IsAnswered}
use Rattle.tx_rule.specs.Drafted.{drafted_checks}
use Rattle.rule_checks.proofs.Faults.{answered_later, faulted}
use Rattle.tx_rule.proofs.Certified.{checks_from}
use Rattle.tx_rule.proofs.Grouped.{body_groups}
use Rattle.tx_rule.proofs.judge_passed.Goals as goal

pub returns-in_err-withdraw-clause-rule : goal.returns-in_err-withdraw-clause-rule
returns-in_err-withdraw-clause-rule c =
    let l = c.args.draft.now.start in
    let tx = c.args.tx.now in
    let is : c.from_residual.result ≡ Err c.in_err-withdraw.field-0.0 = search rules in
    subst (λ (r : Result ⊤ TxFault). IsAnswered (first_among (body_checks l tx)) r) (sym is) (faulted _ _ _ _ (body_groups l tx) c.in_err-withdraw.ensures.rule)

pub certify-requires-clause-begun : goal.certify-requires-clause-begun
certify-requires-clause-begun c =
    let tx = c.args.tx.now in
    c.in_ok-refresh.ensures.ledger
    ∙ ap (refreshed tx) (c.in_ok-withdraw.ensures.ledger ∙ ap (λ (d : Drafted). withdrawn tx d.ledger) c.requires.fresh)
    ∙ ap (λ (l : Ledger). draft_after l tx 0) (sym (c.in_ok-refresh.ensures.start ∙ c.in_ok-withdraw.ensures.start))

pub returns-in_err-certify-clause-rule : goal.returns-in_err-certify-clause-rule
returns-in_err-certify-clause-rule c =
    let l = c.args.draft.now.start in
    let tx = c.args.tx.now in
    let is : c.from_residual-in_err-certify.result ≡ Err c.in_err-certify.field-0.0 = search rules in
    let rule = subst (λ (x : Ledger). IsAnswered (first_among (checks_from x tx 0)) (Err c.in_err-certify.field-0.0)) (c.in_ok-refresh.ensures.start ∙ c.in_ok-withdraw.ensures.start) c.in_err-certify.ensures.rule in
    subst (λ (r : Result ⊤ TxFault). IsAnswered (first_among (body_checks l tx)) r) (sym is)
    (answered_later _ _ _ (Err c.in_err-certify.field-0.0) (body_groups l tx) c.in_ok-withdraw.ensures.rule (faulted _ (first_among (drafted_checks l tx)) _ _ refl rule))

pub returns-clause-rule : goal.returns-clause-rule
returns-clause-rule c =
    let l = c.args.draft.now.start in
    let tx = c.args.tx.now in
    let begun = c.in_ok-refresh.ensures.start ∙ c.in_ok-withdraw.ensures.start in
    let start = c.in_ok-certify.ensures.start ∙ begun in
    let drafted = subst (λ (x : Ledger). IsAnswered (first_among (drafted_checks x tx)) c.check_drafted.result) start c.check_drafted.ensures in
    let certs = subst (λ (x : Ledger). first_among (checks_from x tx 0) ≡ None) begun c.in_ok-certify.ensures.rule in
    answered_later _ _ _ _ (body_groups l tx) c.in_ok-withdraw.ensures.rule
    (answered_later _ _ _ _ refl certs drafted)
