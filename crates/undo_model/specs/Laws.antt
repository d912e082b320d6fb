-- The laws on undos; src/laws.rt states each as a function's contract. (Own)
use Rattle.std.specs.Prelude.{◌≡◌}
use Rattle.tx_records.specs.declared.record.Record.{Record}
use Rattle.run_model.specs.SoundWorld.{IsSoundWorld}
use Rattle.run_model.specs.Step.{step}
use Rattle.run_model.specs.World.{World}
use Rattle.undo_model.specs.Holds.{Holds}
use Rattle.undo_model.specs.Undone.{Before, undone}

-- an undo gives the World whose values it puts back, with the present count
abbrev pub UndoneIsBefore : Type 0
UndoneIsBefore = (w v : World) (b : Before) → IsSoundWorld w → IsSoundWorld v → Holds w b v →
    undone b v ≡ record w { counted = v.counted }

-- there are old values for each record that stays in the epoch
abbrev pub EachRecordHasOldValues : Type 0
EachRecordHasOldValues = (w : World) (r : Record) → IsSoundWorld w → (step w r).0.ledger.epoch ≡ w.ledger.epoch →
    (b : Before) × Holds w b (step w r).0
