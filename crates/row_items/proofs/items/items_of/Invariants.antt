-- The items found so far show the rows so far, and no others do.
use Rattle.std.proofs.Common.{drop}
use Rattle.row_items.proofs.SoFar.{IsSoFar}
use Rattle.row_items.proofs.items.items_of.Given as goal

abbrev pub invariant-loop-row : goal.invariant-loop-row
invariant-loop-row g l = IsSoFar g.K.RowKind.form g.K.RowKind.shows l.rows l.items.items (drop l.row-index l.rows)
