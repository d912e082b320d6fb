-- What a frozen epoch and an ended count must satisfy before all proposals can be counted.
-- (CIP-1694, Changes to the stake snapshot; the DRep pulsing snapshot of cardano-ledger)
use Rattle.std.specs.Prelude.{◌≡◌, ◌^◌, ◌<◌, All}
use Rattle.maps.specs.Maps.{IsMap}
use Rattle.gov_ids.specs.Orders.{credential_cmp, voter_cmp}
use Rattle.gov_actions.specs.declared.action.Proposal.{Proposal}
use Rattle.gov_model.specs.Laws.{HaveDistinctIds}
use Rattle.gov_model.specs.Sides.{members_of}
use Rattle.gov_model.specs.Snapshot.{Snapshot}
use Rattle.drep_pulser.specs.Count.{Ended}
use Rattle.drep_pulser.specs.Facts.{IsCountedOf}
use Rattle.snapshots.specs.declared.frozen.Frozen.{Frozen}
use Rattle.snapshots.specs.Frozen.{frozen_copy_of}
use Rattle.tally.specs.Stakes.{drep_stakes, pool_stakes}

-- both are from one list of entries: the stakes of DReps and pools, and the default votes,
-- are those of the snapshot
pub record AreOf (s : Snapshot) (f : Frozen) (c : Ended) : Type 0 where
  pub frozen : f ≡ frozen_copy_of s
  pub counted : IsCountedOf s c

-- P holds of each snapshot to which they belong
abbrev pub ForSnapshot : Frozen → Ended → (Snapshot → Type 0) → Type 0
ForSnapshot f c P = (s : Snapshot) → AreOf s f c → P s

-- each name occurs once, and each sum fits in 64 bits
pub record CanBeCounted (f : Frozen) (c : Ended) : Type 0 where
  -- each proposal
  pub proposals : HaveDistinctIds f.proposals
  -- each voter on a proposal, in order
  pub voters : All (λ (a : Proposal). IsMap voter_cmp a.votes) f.proposals
  -- each member of the committee, in order
  pub members : IsMap credential_cmp (members_of f.start.committee)
  -- the stakes of all DReps together
  pub dreps : drep_stakes f c < 2 ^ 64
  -- those of all pools
  pub pools : pool_stakes f < 2 ^ 64
