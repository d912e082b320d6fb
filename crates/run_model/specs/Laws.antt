-- The laws on every World that records reach, stated here, proved where a public call cites them.
use Rattle.std.specs.Prelude.{◌≡◌, ◌+◌, ◌^◌, ◌≤◌, ◌<◌, ◌⊎◌, ℤ, List, [], Some, None, Contains, true}
use Rattle.std.specs.List.{AllZip, list_all}
use Rattle.ledger_model.specs.of_assets.Quantities.{all_burned, all_minted, quantity_of}
use Rattle.maps.specs.Maps.{value_at}
use Rattle.gov_ids.specs.Orders.{credential_cmp}
use Rattle.gov_ids.specs.declared.ActionId.{ActionId}
use Rattle.gov_ids.specs.declared.assets.AssetId.{AssetId}
use Rattle.gov_ids.specs.declared.Credential.{Credential}
use Rattle.ledger_model.specs.of_book_records.declared.DrepState.{DrepState}
use Rattle.ledger_model.specs.of_book_records.Outputs.{assets_in}
use Rattle.ledger_model.specs.of_gov_actions.declared.action.Proposal.{Proposal}
use Rattle.ledger_model.specs.of_gov_model.Laws.{IsOneOrNoneDelays}
use Rattle.ledger_model.specs.of_gov_model.Ratified.{IsRatified, ratified_of}
use Rattle.ledger_model.specs.of_tx_records.declared.record.Record.{Record}
use Rattle.ledger_model.specs.of_tx_records.declared.record.Record.TheVariants as records
use Rattle.ledger_model.specs.of_tx_records.declared.record.Rewards.{Rewards}
use Rattle.ledger_model.specs.of_tx_records.declared.reply.Reply.{Reply}
use Rattle.ledger_model.specs.of_tx_records.declared.reply.Reply.TheVariants as replies
use Rattle.ledger_model.specs.Ledger.{Ledger}
use Rattle.ledger_model.specs.Supply.{pots_of, supply_of}
use Rattle.ledger_model.specs.Moves.{IsMovedBy}
use Rattle.run_model.specs.World.{World}
use Rattle.run_model.specs.Boundary.{enacted_proposals}
use Rattle.run_model.specs.BoundaryFlows.{flows_of}
use Rattle.ledger_model.specs.of_tx_records.GenesisLimits as genesis_limits
use Rattle.ledger_model.specs.of_tx_records.RecordLimits.{is_within_limits}
use Rattle.run_model.specs.Step.{step, rewards_in, rewards_out}
use Rattle.run_model.specs.Runs.{IsReached, replies_of, world_after_all, counted_of}
use Rattle.run_model.specs.Genesis.{genesis_fault, world_of_genesis}
use Rattle.ledger_model.specs.of_tx_records.declared.genesis.Genesis.{Genesis}

-- the balance of flows: each record moves the pots by its flows
abbrev pub FlowsBalance : Type 0
FlowsBalance = (w : World) → IsReached w → (r : Record) → is_within_limits r ≡ true →
    IsMovedBy (flows_of w r) (pots_of w.ledger) (pots_of (step w r).0.ledger)

-- all pots together are the supply of the genesis that the World is reached from
abbrev pub SupplyStays : Type 0
SupplyStays = (w : World) (reached : IsReached w) → supply_of w.ledger ≡ reached.genesis.supply

-- what a record mints and burns: only an accepted transaction whose scripts did not fail does so
abbrev pub mint_of : Record → Reply → List (AssetId × ℤ)
mint_of (records.Tx tx) replies.Accepted = tx.mint
mint_of _ _ = []

-- each record changes what unspent outputs hold of an asset by what it mints and burns of it
abbrev pub AssetsChangeByMint : Type 0
AssetsChangeByMint = (w : World) → IsReached w → (r : Record) → is_within_limits r ≡ true → (a : AssetId) →
    let mint : List (AssetId × ℤ) = mint_of r (step w r).1 in
    assets_in (step w r).0.ledger.outputs a + quantity_of (all_burned mint) a
    ≡ assets_in w.ledger.outputs a + quantity_of (all_minted mint) a

-- each epoch ratifies exactly one list of what it froze; it is one delaying action or has none
abbrev pub EpochsRatifyOneList : Type 0
EpochsRatifyOneList = (w : World) → IsReached w →
    IsRatified w.frozen (ratified_of w.frozen)
    × ((others : List ActionId) → IsRatified w.frozen others → others ≡ ratified_of w.frozen)
    × IsOneOrNoneDelays (enacted_proposals w)

-- two records that differ in a positive pulse at most
abbrev pub IsSameButPulse : Record → Record → Type 0
IsSameButPulse (records.Block slot pulse) (records.Block slot' pulse') =
    (slot ≡ slot') × ((pulse ≡ pulse') ⊎ ((0 < pulse) × (0 < pulse')))
IsSameButPulse r s = r ≡ s

-- pulses do not show: the replies are equal, and the Worlds, except for what was counted
abbrev pub PulsesDoNotShow : Type 0
PulsesDoNotShow = (g : Genesis) → genesis_limits.is_within_limits g ≡ true → genesis_fault g ≡ None →
    (rs ss : List Record) → list_all is_within_limits rs ≡ true → AllZip IsSameButPulse rs ss →
    let w : World = world_of_genesis g in
    (replies_of w rs ≡ replies_of w ss)
    × (world_after_all w rs ≡ record (world_after_all w ss) { counted = (world_after_all w rs).counted })

-- what was counted is what the pulses of the epoch's accepted blocks count
abbrev pub CountedIsThePulses : Type 0
CountedIsThePulses = (g : Genesis) → genesis_limits.is_within_limits g ≡ true → genesis_fault g ≡ None →
    (rs : List Record) → list_all is_within_limits rs ≡ true →
    (world_after_all (world_of_genesis g) rs).counted ≡ counted_of (world_of_genesis g) rs

-- the dormant bound
pub record IsWithinDormantBound (l : Ledger) : Type 0 where
  pub awake : (l.dormant ≡ 0) ⊎ (l.proposals ≡ [])
  pub at_most : l.dormant ≤ l.epoch
  pub expiries : (c : Credential) (d : DrepState) → value_at credential_cmp l.dreps c ≡ Some d
      → d.expiry + l.dormant ≤ 2 ^ 62 + 2 ^ 32 + l.epoch

-- it holds of every World that is reached
abbrev pub DormantBound : Type 0
DormantBound = (w : World) → IsReached w → IsWithinDormantBound w.ledger

-- an update that is balanced and covered
pub record IsCoveredUpdate (l : Ledger) (u : Rewards) : Type 0 where
  pub balanced : rewards_in u ≡ rewards_out u
  pub reserves_cover : u.from_reserves ≤ l.reserves
  pub fees_cover : u.from_fees ≤ l.fees

-- between boundaries all that can be enacted is as frozen, except the treasury, which has not lost;
-- each frozen proposal is live, and at most its votes have changed
pub record IsAsFrozen (w : World) : Type 0 where
  pub epoch : w.frozen.epoch ≡ w.ledger.epoch
  pub state : w.ledger.state ≡ record w.frozen.start { treasury = w.ledger.state.treasury }
  pub treasury : w.frozen.start.treasury ≤ w.ledger.state.treasury
  pub pending : (u : Rewards) → w.pending ≡ Some u → IsCoveredUpdate w.ledger u
  pub live : (a : Proposal) → Contains w.frozen.proposals a
      → (b : Proposal) × Contains w.ledger.proposals b × (record a { votes = b.votes } ≡ b)

-- it holds of every World that is reached
abbrev pub StandsBetweenBoundaries : Type 0
StandsBetweenBoundaries = (w : World) → IsReached w → IsAsFrozen w
