use Rattle.std.proofs.Common.{◌≡◌, ℕ, ◌-◌, ◌^◌, List, [], ◌++◌, OnOk, flat_map, map, min, subst, ◌∙◌}
use Rattle.assets.specs.Balances.{balance_of}
use Rattle.assets.specs.Quantities.{all_burned, all_minted}
use Rattle.gov_ids.specs.declared.assets.AssetId.{AssetId}
use Rattle.ledger_model.specs.Broken.{asset_check}
use Rattle.ledger_model.specs.Checks.{at_place}
use Rattle.ledger_model.specs.UtxoRules.{assets_at}
use Rattle.maps.specs.Words.{with_places}
use Rattle.rule_checks.specs.Told.{told_with}
use Rattle.tx_records.specs.declared.tx.TxOutput.{TxOutput}
use Rattle.utxo_rules.proofs.told_assets.tell_assets.Goals as goal

pub returns : goal.returns
returns c =
    let l = c.args.s.now.ledger in
    let taken = flat_map (assets_at l) c.as_slice.result.now in
    let given = flat_map (λ (o : TxOutput). o.assets) c.as_slice-2.result.now in
    let inputs = c.in_ok-take_inputs.ensures [] [] c.new-sums.ensures.empty in
    let outputs = c.in_ok-give_outputs.ensures taken [] inputs in
    let all = c.in_ok-mint.ensures taken given outputs in
    let sums = all ∙ (λ i. balance_of (flat_map (assets_at l) (c.as_slice.ensures i) ++ all_minted (c.as_slice-3.ensures.value i)) (flat_map (λ (o : TxOutput). o.assets) (c.as_slice-2.ensures i) ++ all_burned (c.as_slice-3.ensures.value i))) in
    subst (λ (s : List (AssetId × (ℕ × ℕ))). OnOk c.tell_uneven.result (c.tell_uneven.new.told ≡ told_with (map (λ (p : ℕ × (AssetId × (ℕ × ℕ))). at_place (min p.0 (2 ^ 32 - 1)) (asset_check p.1)) (with_places s)) c.args.told.now)) sums
    c.tell_uneven.ensures
