use Rattle.std.proofs.Common.{◌≡◌, ◌++◌, ℕ, List, flat_map, take}
use Rattle.gov_ids.specs.declared.assets.AssetId.{AssetId}
use Rattle.assets.specs.Balances.{balance_of}
use Rattle.tx_records.specs.declared.tx.TxOutput.{TxOutput}
use Rattle.utxo_rules.proofs.told_assets.give_outputs.Given as goal

-- with the outputs so far
abbrev pub invariant-loop-output : goal.invariant-loop-output
invariant-loop-output l = (ts gs : List (AssetId × ℕ)) → l.fn.sums.entries ≡ balance_of ts gs
    → l.sums.entries ≡ balance_of ts (gs ++ flat_map (λ (o : TxOutput). o.assets) (take l.output-index l.outputs))
