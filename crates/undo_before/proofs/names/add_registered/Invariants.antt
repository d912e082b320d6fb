use Rattle.std.proofs.Common.{◌≡◌, ◌++◌, drop}
use Rattle.std.specs.Map.{keys_of}
use Rattle.undo_before.proofs.names.add_registered.Given as goal

abbrev pub invariant-loop-c : goal.invariant-loop-c
invariant-loop-c l = l.all.items ++ keys_of (drop l.c-index l.c-items) ≡ l.fn.all.items ++ keys_of l.book.dreps
