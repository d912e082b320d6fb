use Rattle.std.proofs.Common.{◌≡◌, ◌≤◌, ◌*◌, ◌^◌, ◌+◌, ◌-◌, drop, sum_by}
use Rattle.tx_records.specs.declared.tx.TxOutput.{TxOutput}
use Rattle.utxo_rules.proofs.amounts.lovelace_made.Given as goal

-- the sum so far and the sum of what is left are the sum of all
abbrev pub invariant-loop-output : goal.invariant-loop-output
invariant-loop-output l = record {
  bound : l.sum ≤ l.output-index * (2 ^ 64 - 1);
  rest : l.sum + sum_by (λ (o : TxOutput). o.lovelace) (drop l.output-index l.outputs) ≡ sum_by (λ (o : TxOutput). o.lovelace) l.outputs;
}
