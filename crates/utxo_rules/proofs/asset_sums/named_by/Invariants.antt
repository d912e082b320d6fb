use Rattle.std.proofs.Common.{◌≡◌, ◌+◌, drop, length, sum_by}
use Rattle.tx_records.specs.declared.tx.TxOutput.{TxOutput}
use Rattle.utxo_rules.proofs.asset_sums.named_by.Given as goal

-- with the entries of the outputs that are left
abbrev pub invariant-loop-output : goal.invariant-loop-output
invariant-loop-output l = l.named + sum_by (λ (o : TxOutput). length o.assets) (drop l.output-index l.output-items) ≡ length l.tx.mint + sum_by (λ (o : TxOutput). length o.assets) l.tx.outputs
