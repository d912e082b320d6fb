use Rattle.std.proofs.Common.{◌≡◌, map}
use Rattle.record_notes.proofs.unread.listed.Given as goal

-- the names so far
abbrev pub invariant-loop-name : goal.invariant-loop-name
invariant-loop-name l = l.found.items ≡ map (λ n. n.now) l.yielded
