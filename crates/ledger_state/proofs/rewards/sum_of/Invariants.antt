use Rattle.std.proofs.Common.{◌≡◌, ◌≤◌, ◌*◌, ◌^◌, ◌+◌, drop, sum_by}
use Rattle.ledger_state.proofs.rewards.sum_of.Given as goal

-- the sum so far and the sum of what is left are the sum of all
abbrev pub invariant-loop-amount : goal.invariant-loop-amount
invariant-loop-amount l = record {
  bound : l.sum ≤ l.amount-index * 2 ^ 64;
  rest : l.sum + sum_by (λ r. r.1) (drop l.amount-index l.rewards) ≡ sum_by (λ r. r.1) l.rewards;
}
