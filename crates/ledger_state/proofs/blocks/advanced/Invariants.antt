use Rattle.ledger_state.proofs.blocks.advanced.Given as goal

abbrev pub ghosts-pulsed : goal.ghosts-pulsed
ghosts-pulsed a = record { name = a.blank.name; parts = a.blank.parts }
