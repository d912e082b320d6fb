-- The pots along the readings of a run.
-- (The preservation of value of the formal specification, in our own words)
use Rattle.std.specs.Prelude.{◌≡◌, ℕ, List, [], ◌∷◌, Option, Some, None, filter_map}
use Rattle.tx_records.specs.declared.record.Reading.{Reading}
use Rattle.tx_records.specs.declared.record.Reading.TheVariants.{Read}
use Rattle.tx_records.specs.declared.record.Record.{Record}
use Rattle.ledger_model.specs.Flows.{Flow}
use Rattle.ledger_model.specs.Moves.{IsMovedBy}
use Rattle.ledger_model.specs.Supply.{pots_of, supply_of}
use Rattle.run_model.specs.BoundaryFlows.{flows_of}
use Rattle.run_model.specs.World.{World}
use Rattle.text_model.specs.Runs.{world_after_reading}

-- the record that was read, if there was one
abbrev pub record_of_reading : ℕ × Reading → Option Record
record_of_reading (n, Read r) = Some r
record_of_reading _ = None

-- the records among what was read
abbrev pub records_of_readings : List (ℕ × Reading) → List Record
records_of_readings rs = filter_map record_of_reading rs

-- the flows of a reading: none, if it is refused or gave no record
abbrev pub flows_of_reading : World → Reading → List Flow
flows_of_reading w (Read r) = flows_of w r
flows_of_reading w _ = []

-- the pots hold so much together before each reading and after the last one
-- each reading moves each pot by its flows
abbrev pub DoPotsMove : ℕ → World → List (ℕ × Reading) → Type 0
DoPotsMove supply w [] = supply_of w.ledger ≡ supply
DoPotsMove supply w (r ∷ rs) =
    (supply_of w.ledger ≡ supply)
    × IsMovedBy (flows_of_reading w r.1) (pots_of w.ledger) (pots_of (world_after_reading w r.1).ledger)
    × DoPotsMove supply (world_after_reading w r.1) rs
