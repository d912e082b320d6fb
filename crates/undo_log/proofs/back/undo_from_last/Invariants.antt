use Rattle.std.proofs.Common.{◌≡◌, ◌+◌, length, take}
use Rattle.ledger_books.specs.Parts.{frozen_entries}
use Rattle.undo_log.proofs.Undone.{IsBackTo}
use Rattle.undo_log.proofs.back.undo_from_last.Given as goal

-- the later entries are undone, and for each round one less is there
abbrev pub invariant-loop : goal.invariant-loop
invariant-loop l = record {
  back : IsBackTo l.n l.fn.entries.items l.entries.items l.fn.b l.books;
  frozen : frozen_entries l.books ≡ frozen_entries l.fn.b;
  first : take l.n l.entries.items ≡ take l.n l.fn.entries.items;
  left : length l.entries.items + l.counter ≡ l.end + l.n;
}
