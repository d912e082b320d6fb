use Rattle.std.proofs.Common.{◌≡◌, ◌+◌, drop}
use Rattle.payments.specs.Amounts.{all_amounts}
use Rattle.payments.proofs.all_amounts.Given as goal

-- the sum so far and that of what is left
abbrev pub invariant-loop-amount : goal.invariant-loop-amount
invariant-loop-amount l = l.sum + all_amounts (drop l.amount-index l.payments) ≡ all_amounts l.payments
