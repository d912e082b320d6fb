use Rattle.std.proofs.Common.{◌≡◌, ◌+◌, ℕ, ◌<◌, ◌≤◌, length, slice_index_or}
use Rattle.gov_ids.specs.declared.Drep.{Drep}
use Rattle.drep_pulser.proofs.sums.Sums.gather.Given as goal

-- the sums before a place have those of the part in them
abbrev pub invariant-loop-place : goal.invariant-loop-place
invariant-loop-place l = record {
  same : length l.self-inside.amounts.items ≡ length l.initial.self-inside.amounts.items;
  before : (k : ℕ) (e : Drep × ℕ) → k < l.place → slice_index_or l.self-inside.amounts.items k e
      ≡ ((slice_index_or l.initial.self-inside.amounts.items k e).0, (slice_index_or l.initial.self-inside.amounts.items k e).1 + slice_index_or l.part k 0);
  behind : (k : ℕ) (e : Drep × ℕ) → l.place ≤ k → slice_index_or l.self-inside.amounts.items k e ≡ slice_index_or l.initial.self-inside.amounts.items k e;
}
