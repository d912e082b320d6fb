use Rattle.std.proofs.Common.{◌≡◌, ◌+◌, ◌≤◌, drop, filter_map, length}
use Rattle.tally.specs.Active.{active_key}
use Rattle.tally.proofs.committee.active_members.Given as goal

-- the active ones so far with those that are left
abbrev pub invariant-loop-member : goal.invariant-loop-member
invariant-loop-member l = record {
  rest : l.active + length (filter_map (active_key l.f.epoch l.f.hot) (drop l.member-index l.members)) ≡ length (filter_map (active_key l.f.epoch l.f.hot) l.members);
  room : l.active ≤ l.member-index;
}
