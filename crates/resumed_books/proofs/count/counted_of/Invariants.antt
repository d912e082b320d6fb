use Rattle.resumed_books.proofs.count.counted_of.Given as goal

abbrev pub ghosts-after : goal.ghosts-after
ghosts-after a = record { name = a.blank.name; parts = a.blank.parts }
