-- Worked rows on undos: what old values give back, for each kind of record.
use Rattle.std.specs.Prelude.{ℕ, ◌≡◌, List, [], ◌∷◌, Bool, true, false, not, ◌&&◌, Some, None, refl}
use Rattle.std.specs.Fmt.{digits}
use Rattle.hex.specs.Hex.{encode_with}
use Rattle.gov_actions.specs.declared.action.Action.TheVariants as actions
use Rattle.gov_actions.specs.declared.action.Vote.TheVariants as vote
use Rattle.gov_actions.specs.declared.state.HotState.TheVariants.{Hot}
use Rattle.gov_ids.specs.declared.Drep.TheVariants as drep
use Rattle.gov_ids.specs.declared.Voter.TheVariants as voter
use Rattle.run_model.specs.Genesis.{world_of_genesis}
use Rattle.run_model.specs.Runs.{world_after_all}
use Rattle.run_model.specs.Step.{step}
use Rattle.run_model.specs.World.{World}
use Rattle.tx_records.specs.declared.cert.Cert.TheVariants as certs
use Rattle.tx_records.specs.declared.record.Record.{Record}
use Rattle.tx_records.specs.declared.record.Record.TheVariants as records
use Rattle.tx_records.specs.declared.tx.Scripts.TheVariants as scripts
use Rattle.checkpoint_model.specs.Checkpoint.{checkpoint_text}
use Rattle.undo_model.specs.Undone.{Before, undone}
use Rattle.ledger_rows.proofs.Base.{h32, base, key, pool, share, account_on, address_with, action, ref, tx_id, spend, paying, proposing, voting, same_line}

-- the text of a checkpoint of the World
abbrev text : World → List ℕ
text w = checkpoint_text w 0

-- the record changes the World, and an undo with these old values gives it back, except for its count
abbrev is_undone : Before → World → Record → Bool
is_undone b w r =
    let v : World = (step w r).0 in
    not (same_line (text v) (text w)) && same_line (text (undone b v)) (text (record w { counted = v.counted }))

-- two proposals, and three votes of two DReps
abbrev voted : World
voted = world_after_all (world_of_genesis base) (
    records.Tx (record (spend 2 0) {
      proposals = proposing 10 (account_on 1 (key 0x12)) (actions.NoConfidence None) ∷ proposing 10 (account_on 1 (key 0x12)) (actions.NewConstitution None (h32 2) None) ∷ [];
    }) ∷
    records.Tx (record (spend 3 20) {
      votes =
          voting (voter.Drep (key 0x30)) (action 2 0) vote.Yes ∷ voting (voter.Drep (key 0x31)) (action 2 0) vote.No ∷
          voting (voter.Drep (key 0x30)) (action 2 1) vote.Abstain ∷ [];
    }) ∷
    records.Block 1 1 ∷
    []
    )

-- its numbers, and no names
abbrev numbers : Before
numbers = record {
  slot = 1;
  dormant = 0;
  fees = 20;
  donations = 0;
  had_pending = false;
  proposals = 2;
  unused = None;
  outputs = [];
  accounts = [];
  pools = [];
  dreps = [];
  hot = [];
  votes = [];
}

pub a_block : is_undone numbers voted (records.Block 5 1) ≡ true
unfolding digits encode_with
a_block = refl

abbrev update : Record
update = records.Rewards (record { epoch = 0; from_reserves = 3; from_fees = 2; to_treasury = 1; rewards = (key 0x10, 4) ∷ [] })

pub a_reward_update : is_undone numbers voted update ≡ true
unfolding digits encode_with
a_reward_update = refl

-- an update that was pending before stays
pub a_block_after_an_update : is_undone (record numbers { had_pending = true }) (step voted update).0 (records.Block 5 1) ≡ true
unfolding digits encode_with
a_block_after_an_update = refl

-- a transaction that changes each map: a DRep that voted leaves, and another votes again, and where it had not voted
abbrev of_all : Record
of_all = records.Tx (record (spend 4 8) {
  outputs = paying (address_with 1 (key 1) None) 30 0 ∷ [];
  donation = 3;
  withdrawals = (account_on 1 (key 0x11), 33) ∷ [];
  certs =
      certs.DrepUnreg (key 0x30) None ∷ certs.AccountReg (key 0x20) None None None ∷
      certs.PoolReg (pool 0x51) 0 0 (share 0 1) (account_on 1 (key 0x12)) None ∷ certs.PoolRetire (pool 0x50) 1 ∷
      certs.HotAuth (key 0x70) (key 0x72) ∷ [];
  proposals = proposing 10 (account_on 1 (key 0x12)) actions.Info ∷ [];
  votes = voting (voter.Drep (key 0x31)) (action 2 0) vote.Yes ∷ voting (voter.Drep (key 0x31)) (action 2 1) vote.Yes ∷ [];
})

abbrev before_all : Before
before_all = record numbers {
  unused = Some (tx_id 4);
  outputs = (ref 1 4, Some (record { address = address_with 1 (key 1) None; lovelace = 20; assets = [] })) ∷ (ref 4 0, None) ∷ [];
  accounts =
      (key 0x10, Some (record { deposit = 2; rewards = 67; pool = None; drep = Some (drep.Registered (key 0x30)) })) ∷
      (key 0x11, Some (record { deposit = 2; rewards = 33; pool = None; drep = Some (drep.Registered (key 0x31)) })) ∷
      (key 0x20, None) ∷ [];
  pools = (
    pool 0x50,
    Some (record {
      deposit = 5;
      terms = record { cost = 0; pledge = 0; margin = share 0 1; account = account_on 1 (key 0x12); key = None };
      future = None;
      retires = None;
    }),
  ) ∷
      (pool 0x51, None) ∷ [];
  dreps = (key 0x30, Some (record { deposit = 5; expiry = 20 })) ∷ [];
  hot = (key 0x70, Some (Hot (key 0x71))) ∷ [];
  votes =
      ((action 2 0, voter.Drep (key 0x30)), Some vote.Yes) ∷ ((action 2 0, voter.Drep (key 0x31)), Some vote.No) ∷
      ((action 2 1, voter.Drep (key 0x30)), Some vote.Abstain) ∷ ((action 2 1, voter.Drep (key 0x31)), None) ∷ [];
}

pub a_transaction : is_undone before_all voted of_all ≡ true
unfolding digits encode_with
a_transaction = refl

-- without the old votes, or with the id, or with the proposal, it is another World
pub a_transaction_without_its_votes : is_undone (record before_all { votes = [] }) voted of_all ≡ false
unfolding digits encode_with
a_transaction_without_its_votes = refl

pub a_transaction_with_its_id : is_undone (record before_all { unused = None }) voted of_all ≡ false
unfolding digits encode_with
a_transaction_with_its_id = refl

pub a_transaction_with_its_proposal : is_undone (record before_all { proposals = 3 }) voted of_all ≡ false
unfolding digits encode_with
a_transaction_with_its_proposal = refl

-- a transaction with failed scripts: it loses 20 of collateral, and gets 5 back
pub failed_scripts : is_undone (record numbers {
  unused = Some (tx_id 4);
  outputs = (ref 1 5, Some (record { address = address_with 1 (key 1) None; lovelace = 20; assets = [] })) ∷ (ref 4 0, None) ∷ [];
}) voted (records.Tx (record (spend 4 10) {
  scripts = scripts.Failed;
  collateral = ref 1 5 ∷ [];
  collateral_return = Some (paying (address_with 1 (key 1) None) 5 0);
})) ≡ true
unfolding digits encode_with
failed_scripts = refl

-- an epoch without a proposal, then one in its next
abbrev dormant : World
dormant = world_after_all (world_of_genesis base) (records.Block 10 3 ∷ [])

pub dormant_epochs : is_undone (record numbers {
  slot = 10;
  dormant = 1;
  fees = 0;
  proposals = 0;
  unused = Some (tx_id 2);
  outputs = (ref 1 2, Some (record { address = address_with 1 (key 1) None; lovelace = 20; assets = [] })) ∷ [];
  dreps = (key 0x30, Some (record { deposit = 5; expiry = 20 })) ∷ (key 0x31, Some (record { deposit = 5; expiry = 20 })) ∷ [];
}) dormant (records.Tx (record (spend 2 10) { proposals = proposing 10 (account_on 1 (key 0x12)) actions.Info ∷ [] })) ≡ true
unfolding digits encode_with
dormant_epochs = refl
