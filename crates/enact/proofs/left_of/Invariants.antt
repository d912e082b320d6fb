use Rattle.std.proofs.Common.{◌≡◌, ◌≤◌, ◌-◌, ℕ, drop, sum_by}
use Rattle.gov_ids.specs.declared.Account.{Account}
use Rattle.enact.proofs.left_of.Given as goal

-- what is left covers the amounts that are not yet taken
abbrev pub invariant-loop-amount : goal.invariant-loop-amount
invariant-loop-amount l = record {
  covers : sum_by (λ (t : Account × ℕ). t.1) (drop l.amount-index l.targets) ≤ l.left;
  rest : l.left - sum_by (λ (t : Account × ℕ). t.1) (drop l.amount-index l.targets) ≡ l.treasury - sum_by (λ (t : Account × ℕ). t.1) l.targets;
}
