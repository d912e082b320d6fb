-- A World by the parts that a program holds. (EpochState and NewEpochState of the formal
-- specification; how they are held is own)
use Rattle.std.specs.Prelude.{◌≡◌, ℕ, List, Option}
use Rattle.gov_ids.specs.declared.Credential.{Credential}
use Rattle.gov_ids.specs.declared.PoolId.{PoolId}
use Rattle.book_records.specs.declared.Entry.{Entry}
use Rattle.gov_model.specs.Snapshot.{Snapshot}
use Rattle.tx_records.specs.declared.record.Rewards.{Rewards}
use Rattle.run_model.specs.SoundWorld.{IsSoundWorld}
use Rattle.run_model.specs.World.{World}
use Rattle.drep_pulser.specs.declared.Pulser.{Pulser}
use Rattle.drep_pulser.specs.Pulsers.{IsPulserOf, done_by}
use Rattle.snapshots.specs.Frozen.{frozen_copy_of}
use Rattle.snapshots.specs.declared.frozen.Frozen.{Frozen}
use Rattle.snapshots.specs.declared.stakes.Snapshots.{Snapshots}
use Rattle.epoch_start.specs.Begun.{accounts_of_pools}
use Rattle.live_ledger.specs.Standing.{Standing}

-- the snapshot of a frozen copy, with these account entries and these stakes of pools
abbrev pub snapshot_with : List (Credential × Entry) → List (PoolId × ℕ) → Frozen → Snapshot
snapshot_with entries mark f = record {
  epoch = f.epoch;
  entries = entries;
  dreps = f.dreps;
  mark = mark;
  pool_accounts = accounts_of_pools f.pools;
  hot = f.hot;
  proposals = f.proposals;
  start = f.start;
}

-- the World of a ledger with its frozen entries, stakes of pools, a pending update, a copy, a count
abbrev pub world_with : Standing → Snapshots → Option Rewards → Frozen → Pulser → World
world_with s marks pending f p = record {
  ledger = s.ledger;
  pending = pending;
  counted = done_by p;
  mark = marks.mark;
  set = marks.set;
  go = marks.go;
  noted_fees = marks.fees;
  frozen = snapshot_with s.frozen marks.mark f;
}

-- the World is sound, the copy is of its snapshot, and the count is of that snapshot: it has
-- counted as many entries, and their weight
pub record IsHeldBy (w : World) (f : Frozen) (p : Pulser) : Type 0 where
  pub sound : IsSoundWorld w
  pub copied : f ≡ frozen_copy_of w.frozen
  pub counts : IsPulserOf w.frozen p
