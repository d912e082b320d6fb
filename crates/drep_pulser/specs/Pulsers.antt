-- A pulser: a count that goes on, or one that has ended. (the DRep pulser of cardano-ledger)
use Rattle.std.specs.Prelude.{ℕ, Bool, true, false, List}
use Rattle.gov_ids.specs.declared.Credential.{Credential}
use Rattle.book_records.specs.declared.Entry.{Entry}
use Rattle.snapshots.specs.of_gov_model.Snapshot.{Snapshot}
use Rattle.drep_pulser.specs.declared.Pulser.{Pulser}
use Rattle.drep_pulser.specs.declared.Pulser.TheVariants.{Counting, Counted}
use Rattle.drep_pulser.specs.Facts.{IsCountIn, IsCountOf, IsCountedOf}

-- it counts the snapshot's entries, or has the stakes of its DReps
abbrev pub IsPulserOf : Snapshot → Pulser → Type 0
IsPulserOf f (Counting c) = IsCountOf f c
IsPulserOf f (Counted c) = IsCountedOf f c

-- where it goes on, it counts these entries
abbrev pub GoesOnIn : List (Credential × Entry) → Pulser → Type 0
GoesOnIn es (Counting c) = IsCountIn es c
GoesOnIn es (Counted c) = Unit {0}

-- whether it has ended
abbrev pub has_ended : Pulser → Bool
has_ended (Counting c) = false
has_ended (Counted c) = true

-- how many entries are visited
abbrev pub done_by : Pulser → ℕ
done_by (Counting c) = c.done
done_by (Counted c) = c.total

-- how many there are
abbrev pub total_of_pulser : Pulser → ℕ
total_of_pulser (Counting c) = c.total
total_of_pulser (Counted c) = c.total
