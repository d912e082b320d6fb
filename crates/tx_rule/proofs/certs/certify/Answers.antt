use Rattle.std.proofs.Common.{◌≡◌, ◌<◌, List, Option, Result, Err, get_or, length, map, ap, sym, subst, ◌∙◌, arith, rules}
use Rattle.std.specs.Prelude.{⊤}
use Rattle.tx_records.specs.declared.cert.Cert.{Cert}
use Rattle.tx_records.specs.declared.reply.Rule.{Rule}
use Rattle.tx_records.specs.declared.reply.TxFault.{TxFault}
use Rattle.ledger_model.specs.CertRules.{cert_checks}
use Rattle.ledger_model.specs.Changes.{changed_by}
use Rattle.ledger_model.specs.Checks.{at_place, first_among}
use Rattle.ledger_model.specs.Draft.{draft_after}
use Rattle.ledger_model.specs.Flows.{End, flows_of_cert, hand, sink, source, sum_at}
use Rattle.rule_checks.specs.Answered.{IsAnswered}
use Rattle.rule_checks.proofs.Faults.{faulted}
use Rattle.tx_rule.proofs.Certified.{checks_from, next_checks, next_draft, next_flows, next_passed}
use Rattle.tx_rule.proofs.certs.certify.Goals as goal

pub loop-place-preserved : goal.loop-place-preserved
loop-place-preserved c =
    let l = c.args.draft.now.start in
    let tx = c.args.tx.now in
    let i = c.loop-place.place in
    let x = c.index-certs-place.result in
    let before = c.loop-place.invariant in
    let done = c.in_ok-act.ensures in
    let within : i < length tx.certs = subst (λ (cs : List Cert). i < length cs) c.as_slice-certs.ensures c.loop-place-test.true in
    let item : x ≡ get_or tx.certs i x = c.index-certs-place.is ∙ ap (λ (cs : List Cert). get_or cs i x) c.as_slice-certs.ensures in
    let none = sym (λ j. first_among (map (at_place i) (cert_checks (before.start j) (before.ledger j) (item j)))) ∙ done.rule in
    let moved : (end : End) → sum_at end hand (flows_of_cert c.loop-place.draft.ledger x) ≡ sum_at end hand (flows_of_cert (draft_after l tx i) (get_or tx.certs i x)) = λ end j. sum_at end hand (flows_of_cert (before.ledger j) (item j)) in
    record {
      start = done.start ∙ before.start;
      ledger = done.ledger ∙ (λ j. changed_by (item j) (before.ledger j)) ∙ next_draft l tx i x within none;
      rules = next_passed l tx i x within none ∙ before.rules;
      refunds = omega (arith, done.moved.refunds, moved sink, next_flows l tx i x within sink, before.refunds);
      deposits = omega (arith, done.moved.deposits, moved source, next_flows l tx i x within source, before.deposits);
      few = omega (arith, done.few, before.few);
    }

pub returns-in_err-act-clause-rule : goal.returns-in_err-act-clause-rule
returns-in_err-act-clause-rule c =
    let l = c.args.draft.now.start in
    let tx = c.args.tx.now in
    let i = c.loop-place.place in
    let x = c.index-certs-place.result in
    let e = c.in_err-act.field-0.0 in
    let before = c.loop-place.invariant in
    let within : i < length tx.certs = subst (λ (cs : List Cert). i < length cs) c.as_slice-certs.ensures c.loop-place-test.true in
    let item : x ≡ get_or tx.certs i x = c.index-certs-place.is ∙ ap (λ (cs : List Cert). get_or cs i x) c.as_slice-certs.ensures in
    let is : c.from_residual.result ≡ Err e = search rules in
    let here = subst (λ (o : Option Rule). IsAnswered o (Err e)) (λ j. first_among (map (at_place i) (cert_checks (before.start j) (before.ledger j) (item j)))) c.in_err-act.ensures.rule in
    subst (λ (r : Result ⊤ TxFault). IsAnswered (first_among (checks_from l tx 0)) r) (sym is)
    (subst (λ (o : Option Rule). IsAnswered o (Err e)) before.rules (faulted _ _ _ e (next_checks l tx i x within) here))
