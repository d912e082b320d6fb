use Rattle.std.proofs.Common.{◌≡◌, ◌++◌, drop}
use Rattle.gov_ids.specs.Orders.{credential_cmp}
use Rattle.undo_before.specs.Old.{old_at}
use Rattle.undo_before.proofs.old.old_hot.Given as goal

abbrev pub invariant-loop-c : goal.invariant-loop-c
invariant-loop-c l = l.olds.items ++ old_at credential_cmp l.book (drop l.c-index l.names) ≡ old_at credential_cmp l.book l.names
