use Rattle.std.proofs.Common.{◌≡◌, [], drop, take}
use Rattle.resume_checks.proofs.Following.{Knows, all_follow}
use Rattle.resume_checks.proofs.chains.all_follow.Given as goal

-- the purposes are those of the proposals so far; all follow if and only if those that are left do
abbrev pub invariant-loop-proposal : goal.invariant-loop-proposal
invariant-loop-proposal l = record {
  known : Knows l.purposes.entries (take l.proposal-index l.proposals);
  left : all_follow l.last (take l.proposal-index l.proposals) (drop l.proposal-index l.proposals) ≡ all_follow l.last [] l.proposals;
}
