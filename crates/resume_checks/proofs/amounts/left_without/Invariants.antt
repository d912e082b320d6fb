use Rattle.std.proofs.Common.{◌≡◌, ◌+◌, drop, sum_by}
use Rattle.resume_checks.proofs.amounts.left_without.Given as goal

-- what is left with all that the items hold is the amount with what those that are left hold
abbrev pub invariant-loop-item : goal.invariant-loop-item
invariant-loop-item g l = l.left + sum_by g.A.Amount.lovelace l.items ≡ l.fn.amount + sum_by g.A.Amount.lovelace (drop l.item-index l.items)
