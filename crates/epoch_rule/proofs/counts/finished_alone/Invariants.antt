use Rattle.epoch_rule.proofs.counts.finished_alone.Given as goal

abbrev pub ghosts-visited : goal.ghosts-visited
ghosts-visited a = record { name = a.blank.name; parts = a.blank.parts }
