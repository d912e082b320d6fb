use Rattle.std.proofs.Common.{◌≡◌, ◌++◌, drop, length}
use Rattle.resume_checks.specs.Frozen.{matched}
use Rattle.resume_checks.proofs.frozen.matched.Given as goal

-- those so far, then those that come next among what is left
abbrev pub invariant-loop-proposal : goal.invariant-loop-proposal
invariant-loop-proposal l = l.frozen.items ++ matched (drop l.proposal-index l.live) (drop (length l.frozen.items) l.voted) ≡ matched l.live l.voted
