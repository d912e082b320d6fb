-- The World of the program's ledger, and what stays true of it.
use Rattle.run_model.specs.World.{World}
use Rattle.ledger_state.specs.declared.state.LedgerState.TheInside.{Inside}
use Rattle.ledger_state.specs.Worlds.{IsHeldBy, world_with}

-- the whole World
abbrev pub world_view : Inside → World
world_view a = world_with a.live a.snapshots a.pending a.frozen a.pulser

-- it is sound, and the frozen copy and the count are of it
abbrev pub IsHeld : Inside → Type 0
IsHeld a = IsHeldBy (world_view a) a.frozen a.pulser
