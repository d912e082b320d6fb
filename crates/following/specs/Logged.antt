-- What the undo log of a followed stream holds of the records that remain. (Own)
use Rattle.std.specs.Prelude.{◌≡◌, ℕ, ◌≤◌, ◌==◌, List, Option, Some, None, drop, filter_map, map, if◌then◌else◌}
use Rattle.std.specs.List.{AllByRecursion}
use Rattle.follow_model.specs.Chain.{up_to_block}
use Rattle.ledger_model.specs.Ledger.{Ledger}
use Rattle.run_model.specs.Runs.{world_after_all}
use Rattle.run_model.specs.Step.{epoch_at}
use Rattle.run_model.specs.World.{World}
use Rattle.tx_records.specs.declared.record.Record.{Record}
use Rattle.tx_records.specs.declared.record.Record.TheVariants as records
use Rattle.undo_log.specs.Back.{AllUndoable, mark_at, undone_all}
use Rattle.undo_log.specs.Logs.{Log}
use Rattle.undo_log.specs.declared.marks.Mark.{Mark}

-- the slot of a block of the ledger's epoch
abbrev pub slot_in : Ledger → Record → Option ℕ
slot_in l (records.Block slot pulse) = if epoch_at l slot == l.epoch then Some slot else None
slot_in l _ = None

-- the slots of the blocks of the ledger's epoch, in order
abbrev pub slots_in : Ledger → List Record → List ℕ
slots_in l rs = filter_map (slot_in l) rs

-- the slots of marks
abbrev pub slots_of : List Mark → List ℕ
slots_of marks = map (λ (m : Mark). m.slot) marks

-- no mark is later than the World
abbrev pub AreMarksPast : World → Log → Type 0
AreMarksPast w log = AllByRecursion (λ (m : Mark). m.slot ≤ w.ledger.slot) log.marks

-- over the World w, which these records leave of the World start
pub record IsLogOf (start : World) (kept : List Record) (w : World) (log : Log) : Type 0 where
  -- its entries can be undone, from the last to the first
  pub undoable : AllUndoable log.entries w
  -- it has a mark for each block of the epoch that remains, in their order
  pub marks : slots_of log.marks ≡ slots_in w.ledger kept
  -- undoing what came after a mark leaves the World of the records up to its block, with the count
  -- of now
  pub back : (slot n : ℕ) → mark_at slot log.marks ≡ Some n →
      undone_all (drop n log.entries) w ≡ record (world_after_all start (up_to_block slot kept)) { counted = w.counted }
