use Rattle.std.proofs.Common.{◌≡◌, ◌++◌, drop}
use Rattle.std.specs.Map.{keys_of}
use Rattle.ledger_model.specs.Transaction.{kept_output, made_outputs}
use Rattle.tx_balance.proofs.Outputs.{made_from}
use Rattle.undo_before.specs.Old.{none_at}
use Rattle.undo_before.proofs.outputs.add_made.Given as goal

abbrev pub invariant-loop-index : goal.invariant-loop-index
invariant-loop-index l =
    l.olds.items ++ none_at (keys_of (made_from l.tx.id kept_output l.index (drop l.index l.tx.outputs)))
    ≡ l.fn.olds.items ++ none_at (keys_of (made_outputs l.tx))
