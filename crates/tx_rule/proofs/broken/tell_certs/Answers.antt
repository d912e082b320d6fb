use Rattle.std.proofs.Common.{◌≡◌, ◌+◌, ◌<◌, List, get_or, length, map, ap, subst, ◌∙◌, arith}
use Rattle.tx_records.specs.declared.cert.Cert.{Cert}
use Rattle.tx_records.specs.declared.reply.Rule.{Rule}
use Rattle.ledger_model.specs.CertRules.{cert_checks}
use Rattle.ledger_model.specs.Checks.{at_place}
use Rattle.ledger_model.specs.Draft.{draft_after, draft_with}
use Rattle.ledger_model.specs.Flows.{End, flows_of_cert, hand, sink, source, sum_at}
use Rattle.rule_checks.specs.Told.{told_with}
use Rattle.tx_rule.proofs.Certified.{checks_from, draft_behind, next_flows, next_told}
use Rattle.tx_rule.proofs.broken.tell_certs.Goals as goal

pub loop-place-preserved : goal.loop-place-preserved
loop-place-preserved c =
    let l = c.args.draft.now.start in
    let tx = c.args.tx.now in
    let i = c.loop-place.place in
    let x = c.index-certs-place.result in
    let before = c.loop-place.invariant in
    let done = c.in_ok-tell_cert.ensures in
    let within : i < length tx.certs = subst (λ (cs : List Cert). i < length cs) c.as_slice-certs.ensures c.loop-place-test.true in
    let item : x ≡ get_or tx.certs i x = c.index-certs-place.is ∙ ap (λ (cs : List Cert). get_or cs i x) c.as_slice-certs.ensures in
    let moved : (end : End) → sum_at end hand (flows_of_cert c.loop-place.draft.ledger x) ≡ sum_at end hand (flows_of_cert (draft_after l tx i) (get_or tx.certs i x)) = λ end j. sum_at end hand (flows_of_cert (before.ledger j) (item j)) in
    record {
      start = done.start ∙ before.start;
      ledger = done.ledger ∙ (λ j. draft_with (before.start j) (before.ledger j) (item j)) ∙ draft_behind l tx i x within;
      rules =
          ap (λ (told : List Rule). told_with (checks_from l tx (i + 1)) told)
          (done.rules ∙ (λ j. told_with (map (at_place i) (cert_checks (before.start j) (before.ledger j) (item j))) c.loop-place.told))
          ∙ next_told l tx i x within c.loop-place.told
          ∙ before.rules;
      refunds = omega (arith, c.moved_by-refund.ensures.refund, moved sink, next_flows l tx i x within sink, before.refunds);
      deposits = omega (arith, c.moved_by-refund.ensures.deposit, moved source, next_flows l tx i x within source, before.deposits);
      refunds_fit = omega (arith, before.refunds_fit);
      deposits_fit = omega (arith, before.deposits_fit);
      few = omega (arith, done.few, before.few);
    }
