-- That old values are those of one World, and name all in which another World differs. (Own)
use Rattle.std.specs.Prelude.{◌≡◌, true, false, List, Option, Some, is_some, length, take}
use Rattle.std.specs.declared.cmp.Ordering.{Ordering}
use Rattle.std.specs.List.{AllByRecursion, AllZip}
use Rattle.std.specs.Map.{keys_of}
use Rattle.maps.specs.Maps.{has_member, value_at}
use Rattle.maps.specs.Words.{holds}
use Rattle.gov_ids.specs.declared.ActionId.{ActionId}
use Rattle.gov_ids.specs.declared.TxId.{TxId}
use Rattle.gov_ids.specs.declared.Voter.{Voter}
use Rattle.gov_ids.specs.Orders.{credential_cmp, outref_cmp, pool_cmp, txid_cmp, voter_cmp}
use Rattle.gov_ids.specs.Same.{same_txid}
use Rattle.gov_actions.specs.declared.action.Proposal.{Proposal}
use Rattle.gov_actions.specs.declared.action.Vote.{Vote}
use Rattle.run_model.specs.World.{World}
use Rattle.undo_model.specs.Undone.{Before, old_votes_on}

-- each old value is that of the map before, and at each other key the maps have the same
pub record HoldsOld {K X : Type 0} (cmp : K → K → Ordering) (olds : List (K × Option X)) (before after : List (K × X)) : Type 0 where
  pub values : AllByRecursion (λ (o : K × Option X). value_at cmp before o.0 ≡ o.1) olds
  pub others : (k : K) → has_member cmp (keys_of olds) k ≡ false → value_at cmp after k ≡ value_at cmp before k

-- the unused id is not among the ids before; each other id is among both lists or among none
pub record HoldsUnused (unused : Option TxId) (before after : List TxId) : Type 0 where
  pub values : (id : TxId) → unused ≡ Some id → has_member txid_cmp before id ≡ false
  pub others : (id : TxId) → holds same_txid unused id ≡ false → has_member txid_cmp after id ≡ has_member txid_cmp before id

-- the old votes on a proposal are those before, and it differs at most in the votes of these voters
pub record HoldsOldVotes (olds : List ((ActionId × Voter) × Option Vote)) (before after : Proposal) : Type 0 where
  pub votes : HoldsOld voter_cmp (old_votes_on before.id olds) before.votes after.votes
  pub others : after ≡ record before { votes = after.votes }

-- each value of b is that of w, and v is w except for its count and at what b names
-- b may name more than differs
pub record Holds (w : World) (b : Before) (v : World) : Type 0 where
  pub slot : b.slot ≡ w.ledger.slot
  pub dormant : b.dormant ≡ w.ledger.dormant
  pub fees : b.fees ≡ w.ledger.fees
  pub donations : b.donations ≡ w.ledger.donations
  -- an update that was pending still is
  pub had_pending : b.had_pending ≡ is_some w.pending
  pub pending : b.had_pending ≡ true → v.pending ≡ w.pending
  pub outputs : HoldsOld outref_cmp b.outputs w.ledger.outputs v.ledger.outputs
  pub used : HoldsUnused b.unused w.ledger.used v.ledger.used
  pub accounts : HoldsOld credential_cmp b.accounts w.ledger.accounts v.ledger.accounts
  pub pools : HoldsOld pool_cmp b.pools w.ledger.pools v.ledger.pools
  pub dreps : HoldsOld credential_cmp b.dreps w.ledger.dreps v.ledger.dreps
  pub hot : HoldsOld credential_cmp b.hot w.ledger.hot v.ledger.hot
  -- v has the proposals of w first, in their order, with other votes at most at the named voters
  pub proposals : b.proposals ≡ length w.ledger.proposals
  pub votes : AllZip (HoldsOldVotes b.votes) w.ledger.proposals (take b.proposals v.ledger.proposals)
  -- all else of v is that of w
  pub others : v ≡ record w {
    ledger = record w.ledger {
      slot = v.ledger.slot;
      dormant = v.ledger.dormant;
      fees = v.ledger.fees;
      donations = v.ledger.donations;
      outputs = v.ledger.outputs;
      used = v.ledger.used;
      accounts = v.ledger.accounts;
      pools = v.ledger.pools;
      dreps = v.ledger.dreps;
      hot = v.ledger.hot;
      proposals = v.ledger.proposals;
    };
    pending = v.pending;
    counted = v.counted;
  }
