use Rattle.std.proofs.Common.{◌≡◌, ℕ, List, [], flat_map, take}
use Rattle.assets.specs.Balances.{balance_of}
use Rattle.gov_ids.specs.declared.assets.AssetId.{AssetId}
use Rattle.tx_records.specs.declared.tx.TxOutput.{TxOutput}
use Rattle.utxo_rules.proofs.asset_sums.give.Given as goal

-- the assets of the outputs so far are given, whatever is taken
abbrev pub invariant-loop-output : goal.invariant-loop-output
invariant-loop-output l = (taken : List (AssetId × ℕ)) → l.fn.balance ≡ balance_of taken [] → l.balance ≡ balance_of taken (flat_map (λ (o : TxOutput). o.assets) (take l.output-index l.outputs))
