use Rattle.std.proofs.Common.{◌≡◌, ◌≤◌, ◌*◌, ◌^◌, ◌+◌, ◌-◌, ℕ, drop, sum_by}
use Rattle.gov_ids.specs.declared.Account.{Account}
use Rattle.utxo_rules.proofs.amounts.lovelace_withdrawn.Given as goal

-- the sum so far and the sum of what is left are the sum of all
abbrev pub invariant-loop-lovelace : goal.invariant-loop-lovelace
invariant-loop-lovelace l = record {
  bound : l.sum ≤ l.lovelace-index * (2 ^ 64 - 1);
  rest : l.sum + sum_by (λ (x : Account × ℕ). x.1) (drop l.lovelace-index l.withdrawals) ≡ sum_by (λ (x : Account × ℕ). x.1) l.withdrawals;
}
