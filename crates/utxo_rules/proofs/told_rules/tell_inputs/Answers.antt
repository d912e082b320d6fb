use Rattle.std.proofs.Common.{◌≡◌, ◌+◌, List, [], ◌∷◌, not, get_or, take, ap, sym, subst, ◌∙◌}
use Rattle.gov_ids.specs.declared.OutRef.{OutRef}
use Rattle.ledger_model.specs.Checks.{breaks}
use Rattle.ledger_model.specs.UtxoRules.{input_checks, is_spent_before}
use Rattle.out_refs.proofs.Fronts.{HasFront, one_more}
use Rattle.tx_records.specs.declared.rules.TheConstants.{INPUT_MISSING, INPUT_REPEATED}
use Rattle.utxo_rules.proofs.Telling.{item_told, nowhere, repeated_is}
use Rattle.utxo_rules.proofs.told_rules.tell_inputs.Goals as goal

pub loop-place-preserved : goal.loop-place-preserved
loop-place-preserved c =
    let l = c.args.s.now.ledger in
    let tx = c.args.tx.now in
    let refs = c.as_slice-at-items.result.now in
    let i = c.loop-place.place in
    let at = get_or refs i nowhere in
    let before = c.loop-place.invariant in
    let lt = c.loop-place-test.true in
    let added = c.in_ok-repeated.ensures.added in
    let repeated : not c.in_ok-repeated.field-0 ≡ is_spent_before tx.inputs i at =
    repeated_is refs i at c.loop-place.seen.keys c.in_ok-repeated.field-0 before.seen added ∙ ap (λ (rs : List OutRef). is_spent_before rs i at) before.same in
    record {
      seen = subst (λ (keys : List OutRef). HasFront keys (take (i + 1) refs)) (sym c.in_ok-repeated.ensures.keys)
          (one_more refs i nowhere lt c.loop-place.seen.keys before.seen _ added);
      rest =
          item_told (input_checks l tx) refs i nowhere lt c.loop-place.told c.add_at.new.self c.input_checks.result
          (c.input_checks.ensures ∙ (λ j. breaks INPUT_MISSING (c.is_missing.ensures j) ∷ breaks INPUT_REPEATED (repeated j) ∷ []))
          c.in_ok-add_at.ensures
          ∙ before.rest;
      same = before.same;
    }
