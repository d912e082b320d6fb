use Rattle.std.proofs.Common.{◌≡◌, ◌+◌, ◌≤◌, drop, map, sum_by}
use Rattle.tally.specs.Adding.{with_sides}
use Rattle.tally.proofs.SilentPools.{silent_side}
use Rattle.tally.proofs.silent_pools.silent_count.Given as goal

-- the count so far with the pools that are left
abbrev pub invariant-loop-p : goal.invariant-loop-p
invariant-loop-p l = record {
  rest : with_sides l.count (map (silent_side l.a) (drop l.p-index l.p-items)) ≡ with_sides (0, 0) (map (silent_side l.a) l.p-items);
  part : l.count.0 ≤ l.count.1;
  room : l.count.1 + sum_by (λ p. p.stake) (drop l.p-index l.p-items) ≤ sum_by (λ p. p.stake) l.p-items;
}
