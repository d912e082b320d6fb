-- A law: a boundary keeps a World sound. A function of src/laws.rt has it as its contract. (Own)
use Rattle.std.specs.Prelude.{◌^◌, ◌<◌}
use Rattle.run_model.specs.Boundary.{world_after_boundary}
use Rattle.run_model.specs.SoundWorld.{IsSoundWorld}
use Rattle.run_model.specs.World.{World}

-- a boundary out of an epoch below 2^62 leaves a sound World sound
abbrev pub BoundariesKeepSound : Type 0
BoundariesKeepSound = (w : World) → IsSoundWorld w → w.ledger.epoch < 2 ^ 62 → IsSoundWorld (world_after_boundary w)
