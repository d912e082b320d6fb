use Rattle.std.proofs.Common.{drop}
use Rattle.tally.specs.Silent.{silent_dreps}
use Rattle.tally.proofs.Votes.{IsSoFar}
use Rattle.tally.proofs.silent_dreps.drep_count_by_votes.Given as goal

-- those who have voted so far are on the side of their vote
abbrev pub invariant-loop-voter : goal.invariant-loop-voter
invariant-loop-voter l = IsSoFar (silent_dreps l.f l.c) l.a.votes (drop l.voter-index l.voter-items) l.count
