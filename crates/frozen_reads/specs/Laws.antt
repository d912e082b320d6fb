-- What is frozen of a sound World can be counted; src/laws.rt has the law as a contract. (Own)
use Rattle.tally.specs.of_drep_pulser.Count.{Ended}
use Rattle.run_model.specs.SoundWorld.{IsSoundWorld}
use Rattle.run_model.specs.World.{World}
use Rattle.snapshots.specs.declared.frozen.Frozen.{Frozen}
use Rattle.tally.specs.Counted.{AreOf, CanBeCounted}

-- the frozen epoch of a sound World and its count meet all that a count of proposals asks
abbrev pub SoundCanBeCounted : Type 0
SoundCanBeCounted = (w : World) (f : Frozen) (c : Ended) → IsSoundWorld w → AreOf w.frozen f c → CanBeCounted f c
