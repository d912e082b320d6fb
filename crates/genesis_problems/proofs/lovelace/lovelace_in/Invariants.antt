use Rattle.std.proofs.Common.{◌≡◌, ◌≤◌, ◌*◌, ◌^◌, ◌+◌, drop, sum_by}
use Rattle.genesis_problems.proofs.lovelace.lovelace_in.Given as goal

-- the sum so far and the sum of what is left are the sum of all
abbrev pub invariant-loop-entry : goal.invariant-loop-entry
invariant-loop-entry g l = record {
  bound : l.sum ≤ l.entry-index * 2 ^ 65;
  rest : l.sum + sum_by g.T.Holding.lovelace_of (drop l.entry-index l.entries) ≡ sum_by g.T.Holding.lovelace_of l.entries;
}
