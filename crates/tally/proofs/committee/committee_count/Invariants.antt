use Rattle.std.proofs.Common.{◌≡◌, ◌≤◌, drop}
use Rattle.tally.specs.Adding.{with_sides}
use Rattle.tally.proofs.MemberSides.{member_sides}
use Rattle.tally.proofs.committee.committee_count.Given as goal

-- the count so far with the members that are left
abbrev pub invariant-loop-member : goal.invariant-loop-member
invariant-loop-member l = record {
  rest : with_sides l.count (member_sides l.f l.a (drop l.member-index l.member-items)) ≡ with_sides (0, 0) (member_sides l.f l.a l.member-items);
  part : l.count.0 ≤ l.count.1;
  room : l.count.1 ≤ l.member-index;
}
