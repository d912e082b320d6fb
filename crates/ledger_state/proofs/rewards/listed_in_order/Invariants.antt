use Rattle.std.proofs.Common.{◌≡◌, map}
use Rattle.std.specs.Map.Iter.{deref_pair}
use Rattle.ledger_state.proofs.rewards.listed_in_order.Given as goal

-- the entries so far
abbrev pub invariant-loop-c : goal.invariant-loop-c
invariant-loop-c l = l.listed.items ≡ map deref_pair l.yielded
