use Rattle.std.proofs.Common.{◌≡◌, ◌+◌, List, get_or, take, ap, sym, subst, ◌∙◌}
use Rattle.gov_ids.specs.declared.OutRef.{OutRef}
use Rattle.ledger_model.specs.UtxoRules.{collateral_checks, is_spent_before}
use Rattle.out_refs.proofs.Fronts.{HasFront, one_more}
use Rattle.utxo_rules.specs.Repeated.{collateral_checks_by, is_at}
use Rattle.utxo_rules.proofs.Telling.{item_told, nowhere, repeated_is}
use Rattle.utxo_rules.proofs.told_rules.tell_collateral.Goals as goal

pub loop-place-preserved : goal.loop-place-preserved
loop-place-preserved c =
    let l = c.args.s.now.ledger in
    let tx = c.args.tx.now in
    let refs = c.as_slice-at-items.result.now in
    let i = c.loop-place.place in
    let at = get_or refs i nowhere in
    let before = c.loop-place.invariant in
    let lt = c.loop-place-test.true in
    let added = c.in_ok-insert.ensures.added in
    let repeated : is_at c.place_where-repeated.result i ≡ is_spent_before tx.collateral i at =
    c.place_where-repeated.ensures
    ∙ repeated_is refs i at c.loop-place.seen.keys c.in_ok-insert.field-0 before.seen added
    ∙ ap (λ (rs : List OutRef). is_spent_before rs i at) before.same in
    record {
      seen = subst (λ (keys : List OutRef). HasFront keys (take (i + 1) refs)) (sym c.in_ok-insert.ensures.keys)
          (one_more refs i nowhere lt c.loop-place.seen.keys before.seen _ added);
      rest =
          item_told (collateral_checks l tx) refs i nowhere lt c.loop-place.told c.tell.new.told (collateral_checks_by l tx (is_at c.place_where-repeated.result i) at)
          (λ j. collateral_checks_by l tx (repeated j) at)
          c.in_ok-tell.ensures
          ∙ before.rest;
      same = before.same;
    }
