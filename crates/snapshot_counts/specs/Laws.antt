-- What is frozen of a snapshot that fits can be counted; src/laws.rt has the law. (Own)
use Rattle.drep_pulser.specs.Count.{Ended}
use Rattle.gov_model.specs.Snapshot.{Snapshot}
use Rattle.snapshots.specs.declared.frozen.Frozen.{Frozen}
use Rattle.tally.specs.Counted.{AreOf, CanBeCounted}
use Rattle.snapshot_counts.specs.Fitting.{IsFitting}

-- it names everything once, and the sums of its stakes fit in 64 bits
abbrev pub FitsCanBeCounted : Type 0
FitsCanBeCounted = (s : Snapshot) (f : Frozen) (c : Ended) → IsFitting s → AreOf s f c → CanBeCounted f c
