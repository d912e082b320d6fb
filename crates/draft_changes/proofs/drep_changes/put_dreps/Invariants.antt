use Rattle.std.proofs.Common.{◌≡◌}
use Rattle.draft_changes.specs.Changed.{with_dreps}
use Rattle.draft_changes.proofs.drep_changes.put_dreps.Given as goal

-- what is left laid over the DReps so far is all laid over the first
abbrev pub invariant-loop-c : goal.invariant-loop-c
invariant-loop-c l = record l.book { dreps = with_dreps l.c-iterator l.book.dreps } ≡ record l.fn.book { dreps = with_dreps l.fn.changed.entries l.fn.book.dreps }
