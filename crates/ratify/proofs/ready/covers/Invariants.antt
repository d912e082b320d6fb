use Rattle.std.proofs.Common.{◌≡◌, ℕ, drop, nat_le, sum_by}
use Rattle.gov_ids.specs.declared.Account.{Account}
use Rattle.ratify.proofs.ready.covers.Given as goal

-- what is left is enough for those that are not yet paid, or neither
abbrev pub invariant-loop-due : goal.invariant-loop-due
invariant-loop-due l =
    nat_le (sum_by (λ (t : Account × ℕ). t.1) (drop l.due-index l.targets)) l.left ≡ nat_le (sum_by (λ (t : Account × ℕ). t.1) l.targets) l.amount
