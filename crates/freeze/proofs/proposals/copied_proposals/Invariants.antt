use Rattle.std.proofs.Common.{◌≡◌, ◌++◌, drop}
use Rattle.freeze.proofs.proposals.copied_proposals.Given as goal

-- the copies so far and those that are left
abbrev pub invariant-loop-i : goal.invariant-loop-i
invariant-loop-i l = l.copies.items ++ drop l.i l.store ≡ l.store
