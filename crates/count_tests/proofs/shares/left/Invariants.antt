use Rattle.count_tests.proofs.shares.left.Given as goal

abbrev pub ghosts-visited : goal.ghosts-visited
ghosts-visited g a = record { name = a.blank.name; parts = a.blank.parts }
