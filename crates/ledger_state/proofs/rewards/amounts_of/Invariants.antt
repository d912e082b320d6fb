use Rattle.std.proofs.Common.{◌≡◌, [], drop}
use Rattle.ledger_state.proofs.Amounts.{with_rewards}
use Rattle.ledger_state.proofs.rewards.amounts_of.Given as goal

-- the amounts so far with those of what is left are the amounts of all
abbrev pub invariant-loop-c : goal.invariant-loop-c
invariant-loop-c l = with_rewards (drop l.c-index l.rewards) l.amounts.entries ≡ with_rewards l.rewards []
