use Rattle.pass_tests.proofs.pulses.counts_in_pulses.Given as goal

abbrev pub ghosts-counts_what_was_frozen_on : goal.ghosts-counts_what_was_frozen_on
ghosts-counts_what_was_frozen_on g a = record { name = a.blank.name; parts = a.blank.parts }

abbrev pub ghosts-ends_on : goal.ghosts-ends_on
ghosts-ends_on g a = record { name = a.blank.name; parts = a.blank.parts }
