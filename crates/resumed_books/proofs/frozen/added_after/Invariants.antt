use Rattle.std.proofs.Common.{◌≡◌, ◌++◌}
use Rattle.resumed_books.specs.Noted.{added_to}
use Rattle.resumed_books.proofs.frozen.added_after.Given as goal

-- those so far and those of the live entries that are left are all
abbrev pub invariant-loop-credential : goal.invariant-loop-credential
invariant-loop-credential l = l.added.items ++ added_to l.entries l.credential-iterator ≡ added_to l.entries l.book.live
