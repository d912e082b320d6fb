-- The World that the parts of a ledger are. (NEWEPOCH of the formal specification)
use Rattle.drep_pulser.specs.declared.Pulser.{Pulser}
use Rattle.drep_pulser.specs.Pulsers.{done_by}
use Rattle.snapshots.specs.declared.frozen.Frozen.{Frozen}
use Rattle.run_model.specs.World.{World}
use Rattle.epoch_start.specs.of_ledger_books.declared.Books.{Books}
use Rattle.epoch_start.specs.of_ledger_books.Parts.{frozen_entries, world_of_books}
use Rattle.ledger_state.specs.Worlds.{snapshot_with}

-- books with a frozen copy and a count: entries of the last freeze, pools of mark
abbrev pub world_of_parts : Books → Frozen → Pulser → World
world_of_parts b f p = world_of_books b (done_by p) (snapshot_with (frozen_entries b) b.snapshots.mark f)
