-- How the World of a followed stream moves; src/laws.rt states each as a contract. (Own)
use Rattle.std.specs.Prelude.{◌≡◌, ℕ, ◌≤◌, true, List, [], ◌∷◌, ◌++◌}
use Rattle.std.specs.List.{AllByRecursion}
use Rattle.ledger_model.specs.Ledger.{Ledger}
use Rattle.ledger_model.specs.Supply.{supply_of}
use Rattle.run_model.specs.Genesis.{world_of_genesis}
use Rattle.run_model.specs.Runs.{world_after_all}
use Rattle.run_model.specs.SoundWorld.{IsSoundWorld}
use Rattle.run_model.specs.Step.{epoch_at, step}
use Rattle.run_model.specs.World.{World}
use Rattle.tx_records.specs.declared.genesis.Genesis.{Genesis}
use Rattle.tx_records.specs.declared.record.Record.{Record}
use Rattle.tx_records.specs.declared.record.Record.TheVariants as records
use Rattle.follow_records.specs.declared.record.FollowRecord.{FollowRecord}
use Rattle.follow_records.specs.declared.record.FollowRecord.TheVariants.{Plain, Rollback}
use Rattle.follow_model.specs.Chain.{Chain, is_known_block, no_records, up_to_block}
use Rattle.follow_model.specs.Follow.{chain_after_all, followed_world}
use Rattle.follow_model.specs.Laws.{IsFollowed}

-- a record of a replay is a step of the World, with its count
abbrev pub PlainIsStep : Type 0
PlainIsStep = (g : Genesis) (rs : List FollowRecord) (r : Record) → IsFollowed g (rs ++ Plain r ∷ []) →
    let start : World = world_of_genesis g in
    followed_world start (rs ++ Plain r ∷ []) ≡ (step (followed_world start rs) r).0

-- an accepted rollback leaves the World of the records up to its block, with the present count
abbrev pub RollbackLeavesKept : Type 0
RollbackLeavesKept = (g : Genesis) (rs : List FollowRecord) (slot : ℕ) → IsFollowed g (rs ++ Rollback slot ∷ []) →
    let start : World = world_of_genesis g in
    let c : Chain = chain_after_all start no_records rs in
    is_known_block (followed_world start rs) c slot ≡ true →
    followed_world start (rs ++ Rollback slot ∷ []) ≡ record (world_after_all start (up_to_block slot c.kept)) { counted = (followed_world start rs).counted }

-- the World after any first records that remain is sound
abbrev pub KeptFrontsAreSound : Type 0
KeptFrontsAreSound = (g : Genesis) (rs : List FollowRecord) (front later : List Record) → IsFollowed g rs →
    let start : World = world_of_genesis g in
    (chain_after_all start no_records rs).kept ≡ front ++ later → IsSoundWorld (world_after_all start front)

-- the epoch of the ledger is that of its slot
abbrev pub EpochIsOfSlot : Type 0
EpochIsOfSlot = (g : Genesis) (rs : List FollowRecord) → IsFollowed g rs →
    let l : Ledger = (followed_world (world_of_genesis g) rs).ledger in
    epoch_at l l.slot ≡ l.epoch

-- a block is not later than the ledger, nor of a later epoch
abbrev pub IsNotLater : Ledger → Record → Type 0
IsNotLater l (records.Block slot pulse) = (slot ≤ l.slot) × (epoch_at l slot ≤ l.epoch)
IsNotLater l r = Unit {0}

-- no block that remains is later than the ledger
abbrev pub KeptAreNotLater : Type 0
KeptAreNotLater = (g : Genesis) (rs : List FollowRecord) → IsFollowed g rs →
    let start : World = world_of_genesis g in
    AllByRecursion (IsNotLater (followed_world start rs).ledger) (chain_after_all start no_records rs).kept

-- after each record of a followed stream the pots sum to the supply of the genesis
abbrev pub FollowedSupplyStays : Type 0
FollowedSupplyStays = (g : Genesis) (rs : List FollowRecord) → IsFollowed g rs →
    supply_of (followed_world (world_of_genesis g) rs).ledger ≡ g.supply
