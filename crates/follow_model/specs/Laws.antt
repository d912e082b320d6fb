-- The laws over followed streams, each with a proof where a public call cites it. (Own)
use Rattle.std.specs.Prelude.{◌≡◌, ℕ, ◌≤◌, Bool, true, List, [], ◌∷◌, ◌++◌, None, map}
use Rattle.std.specs.List.{list_all}
use Rattle.tx_records.specs.declared.genesis.Genesis.{Genesis}
use Rattle.tx_records.specs.declared.record.Record.{Record}
use Rattle.tx_records.specs.GenesisLimits as genesis_limits
use Rattle.tx_records.specs.Limits.{is_slot}
use Rattle.tx_records.specs.RecordLimits as record_limits
use Rattle.run_model.specs.Genesis.{genesis_fault, world_of_genesis}
use Rattle.run_model.specs.Runs.{accepted_records, replies_of, world_after_all}
use Rattle.run_model.specs.SoundWorld.{IsSoundWorld}
use Rattle.run_model.specs.World.{World}
use Rattle.follow_records.specs.declared.record.FollowRecord.{FollowRecord}
use Rattle.follow_records.specs.declared.record.FollowRecord.TheVariants.{Plain, Rollback}
use Rattle.follow_model.specs.Chain.{no_records}
use Rattle.follow_model.specs.Follow.{chain_after_all, follow_replies, followed_world}

-- whether a record is within the limits
abbrev pub is_within_limits : FollowRecord → Bool
is_within_limits (Plain r) = record_limits.is_within_limits r
is_within_limits (Rollback slot) = is_slot slot

-- a stream that begins with a genesis that breaks no rule
pub record IsFollowed (g : Genesis) (rs : List FollowRecord) : Type 0 where
  pub within : genesis_limits.is_within_limits g ≡ true
  pub no_fault : genesis_fault g ≡ None
  pub all_within : list_all is_within_limits rs ≡ true

-- without rollbacks following is a replay: the same replies, and the same World, with its count
abbrev pub FollowIsReplay : Type 0
FollowIsReplay = (g : Genesis) (rs : List Record) → IsFollowed g (map Plain rs) →
    let start : World = world_of_genesis g in
    (follow_replies start no_records (map Plain rs) ≡ replies_of start rs)
    × (followed_world start (map Plain rs) ≡ world_after_all start rs)

-- the records that remain break no rule in their order, so the World is theirs except the count
abbrev pub KeptAreAccepted : Type 0
KeptAreAccepted = (g : Genesis) (rs : List FollowRecord) → IsFollowed g rs →
    let start : World = world_of_genesis g in
    accepted_records start (chain_after_all start no_records rs).kept ≡ (chain_after_all start no_records rs).kept

-- the World is sound after each record
abbrev pub FollowedIsSound : Type 0
FollowedIsSound = (g : Genesis) (rs : List FollowRecord) → IsFollowed g rs → IsSoundWorld (followed_world (world_of_genesis g) rs)

-- one more record in the epoch leaves what is frozen, and never lowers the count
pub record NeverFalls (v w : World) : Type 0 where
  pub frozen : w.frozen ≡ v.frozen
  pub counted : v.counted ≤ w.counted

-- the count never falls within an epoch
abbrev pub CountNeverFalls : Type 0
CountNeverFalls = (g : Genesis) (rs : List FollowRecord) (r : FollowRecord) → IsFollowed g (rs ++ r ∷ []) →
    let v : World = followed_world (world_of_genesis g) rs in
    let w : World = followed_world (world_of_genesis g) (rs ++ r ∷ []) in
    w.ledger.epoch ≡ v.ledger.epoch → NeverFalls v w

-- no rollback leaves the epoch
abbrev pub RollbackStaysInEpoch : Type 0
RollbackStaysInEpoch = (g : Genesis) (rs : List FollowRecord) (slot : ℕ) → IsFollowed g (rs ++ Rollback slot ∷ []) →
    (followed_world (world_of_genesis g) (rs ++ Rollback slot ∷ [])).ledger.epoch ≡ (followed_world (world_of_genesis g) rs).ledger.epoch
