use Rattle.std.proofs.Common.{◌≡◌, ◌+◌, length, get_or, ap, arith, rules, ◌∙◌}
use Rattle.std.proofs.lemmas.List.Sums.{sum_by-drop_more}
use Rattle.tx_records.specs.declared.tx.TxOutput.{TxOutput}
use Rattle.utxo_rules.proofs.asset_sums.named_by.Goals as goal

pub loop-output-preserved : goal.loop-output-preserved
loop-output-preserved c =
    let outputs = c.as_slice-output-items.result.now in
    let output = c.output-item.result in
    let here : length c.as_slice-listed.result.now ≡ length (get_or outputs c.loop-output.output-index output).assets = ap length c.as_slice-listed.ensures.value ∙ ap (λ (o : TxOutput). length o.assets) c.output-item.is in
    let sum : c.in_ok-named.named ≡ c.loop-output.named + length c.as_slice-listed.result.now = search rules in
    omega (arith, here, sum, sum_by-drop_more (λ (o : TxOutput). length o.assets) outputs c.loop-output.output-index output c.loop-output-test.true, c.loop-output.invariant)
