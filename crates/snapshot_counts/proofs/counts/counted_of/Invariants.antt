use Rattle.snapshot_counts.proofs.counts.counted_of.Given as goal

abbrev pub ghosts-finished : goal.ghosts-finished
ghosts-finished a = record { name = a.blank.name; parts = a.blank.parts }
