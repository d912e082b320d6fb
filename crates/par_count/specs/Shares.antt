-- What a worker leaves in its share of the cells. (Own)
use Rattle.std.specs.Prelude.{◌≡◌, ℕ, List, drop, map, take}
use Rattle.drep_pulser.specs.Count.{Ended}
use Rattle.snapshots.specs.declared.frozen.Frozen.{Frozen}
use Rattle.tally.specs.declared.cells.TallyCell.{TallyCell}
use Rattle.tally.specs.Cells.{cell_of}
use Rattle.tally.specs.Counted.{ForSnapshot}

-- these are the cells of so many frozen proposals, from a place on
abbrev pub AreCellsFrom : Frozen → Ended → ℕ → ℕ → List TallyCell → Type 0
AreCellsFrom f c start count cells = ForSnapshot f c (λ s. cells ≡ map (cell_of s) (take count (drop start f.proposals)))
