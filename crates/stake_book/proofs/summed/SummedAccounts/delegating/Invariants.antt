use Rattle.std.proofs.Common.{◌≡◌, ◌++◌}
use Rattle.stake_book.specs.Ended.{delegating}
use Rattle.stake_book.proofs.summed.SummedAccounts.delegating.Given as goal

-- those so far and those of the entries that are left are all
abbrev pub invariant-loop-c : goal.invariant-loop-c
invariant-loop-c l = l.delegating.items ++ delegating l.leaving l.c-iterator ≡ delegating l.leaving l.self.live
