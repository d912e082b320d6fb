-- The names of the snapshots of pools. (Own)
use Rattle.std.specs.Prelude.{codes}
use Rattle.state_lines.specs.declared.actions.SnapshotName.{SnapshotName}
use Rattle.state_lines.specs.declared.actions.SnapshotName.TheVariants.{Mark, Set, Go}
use Rattle.text_model.specs.Words.{Text}

-- the word
abbrev pub snapshot_text : SnapshotName → Text
snapshot_text Mark = codes "mark"
snapshot_text Set = codes "set"
snapshot_text Go = codes "go"
