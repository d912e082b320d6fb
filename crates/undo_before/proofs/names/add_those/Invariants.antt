use Rattle.std.proofs.Common.{◌≡◌, ◌++◌}
use Rattle.undo_before.specs.Names.{delegating_entries}
use Rattle.undo_before.proofs.names.add_those.Given as goal

-- those so far and those of the entries that are left are all
abbrev pub invariant-loop-c : goal.invariant-loop-c
invariant-loop-c l = l.all.items ++ delegating_entries l.left.keys l.c-iterator ≡ l.fn.all.items ++ delegating_entries l.left.keys l.book.live
