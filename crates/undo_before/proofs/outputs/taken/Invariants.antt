use Rattle.std.proofs.Common.{◌≡◌, ◌++◌, drop}
use Rattle.gov_ids.specs.Orders.{outref_cmp}
use Rattle.undo_before.specs.Old.{old_at}
use Rattle.undo_before.proofs.outputs.taken.Given as goal

abbrev pub invariant-loop-at : goal.invariant-loop-at
invariant-loop-at l = l.olds.items ++ old_at outref_cmp l.outputs.outputs (drop l.at-index l.refs) ≡ old_at outref_cmp l.outputs.outputs l.refs
