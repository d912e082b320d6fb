use Rattle.std.proofs.Common.{◌≡◌, ℕ, ◌+◌, List, [], Result, Err, take, ap, sym, subst, ◌∙◌, rules}
use Rattle.gov_ids.specs.declared.OutRef.{OutRef}
use Rattle.ledger_model.specs.Checks.{Check}
use Rattle.rule_checks.proofs.Firsts.{item_broken, item_passed}
use Rattle.tx_records.specs.declared.reply.Rule.{Rule}
use Rattle.utxo_rules.specs.declared.holdings.Spent.{Spent}
use Rattle.utxo_rules.specs.Repeated.{input_checks_by, is_at}
use Rattle.utxo_rules.specs.Spent.{IsSpent, without_value}
use Rattle.utxo_rules.proofs.SpentSums.{spent_more}
use Rattle.utxo_rules.proofs.inputs.held_by.Goals as goal

abbrev nowhere : OutRef
nowhere = record { tx = record { 0 = [] }; index = 0 }

pub returns-in_err-held_at-clause-rule : goal.returns-in_err-held_at-clause-rule
returns-in_err-held_at-clause-rule c =
    let checks : ℕ → OutRef → List Check = λ i r. input_checks_by c.args.s.now.ledger (is_at c.args.repeated i) r in
    let is : c.from_residual.result ≡ Err c.in_err-held_at.field-0.0 = search rules in
    ap (λ (r : Result Spent Rule). without_value r) is
    ∙ item_broken checks c.args.refs.now c.loop-place.place nowhere c.in_err-held_at.field-0.0 c.loop-place-test.true c.in_err-held_at.ensures.rule
    ∙ c.loop-place.invariant.rest

pub loop-place-preserved : goal.loop-place-preserved
loop-place-preserved c =
    let l = c.args.s.now.ledger in
    let refs = c.args.refs.now in
    let i = c.loop-place.place in
    let checks : ℕ → OutRef → List Check = λ k r. input_checks_by l (is_at c.args.repeated k) r in
    record {
      held = subst (λ (s : Spent). IsSpent l (take (i + 1) refs) s) (sym c.both-held.ensures)
          (spent_more l refs i nowhere _ _ c.loop-place-test.true c.loop-place.invariant.held c.in_ok-held_at.ensures.held);
      rest = item_passed checks refs i nowhere c.loop-place-test.true c.in_ok-held_at.ensures.rule ∙ c.loop-place.invariant.rest;
    }
