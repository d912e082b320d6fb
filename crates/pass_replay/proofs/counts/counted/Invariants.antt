use Rattle.pass_replay.proofs.counts.counted.Given as goal

abbrev pub ghosts-finished : goal.ghosts-finished
ghosts-finished a = record { name = a.blank.name; parts = a.blank.parts }
