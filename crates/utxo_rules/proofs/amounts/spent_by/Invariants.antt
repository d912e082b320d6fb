use Rattle.std.proofs.Common.{take}
use Rattle.utxo_rules.specs.Spent.{IsSpent}
use Rattle.utxo_rules.proofs.amounts.spent_by.Given as goal

-- what the references so far hold
abbrev pub invariant-loop-at : goal.invariant-loop-at
invariant-loop-at l = IsSpent l.s.ledger (take l.at-index l.refs) l.spent
