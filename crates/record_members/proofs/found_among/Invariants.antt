use Rattle.std.proofs.Common.{◌≡◌, length, take}
use Rattle.record_members.specs.Members.{FindsAmong}
use Rattle.record_members.proofs.found_among.Given as goal

-- what was found so far are the last members of each name so far
abbrev pub invariant-loop-at : goal.invariant-loop-at
invariant-loop-at l = record {
  places : length l.found ≡ 20;
  finds : FindsAmong l.members (take l.at l.members) l.found;
}
