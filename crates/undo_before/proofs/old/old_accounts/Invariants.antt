use Rattle.std.proofs.Common.{◌≡◌, ◌++◌, drop}
use Rattle.gov_ids.specs.Orders.{credential_cmp}
use Rattle.stake_book.specs.Stakes.{accounts_of}
use Rattle.undo_before.specs.Old.{old_at}
use Rattle.undo_before.proofs.old.old_accounts.Given as goal

abbrev pub invariant-loop-c : goal.invariant-loop-c
invariant-loop-c l = l.olds.items ++ old_at credential_cmp (accounts_of l.book) (drop l.c-index l.names) ≡ old_at credential_cmp (accounts_of l.book) l.names
