-- What the limits of a record say, part by part.
use Rattle.std.proofs.Common.{◌≡◌, ◌<◌, ◌≤◌, ℕ, true, false, length, map}
use Rattle.std.specs.List.{list_all}
use Rattle.std.proofs.lemmas.Bool.{and_parts, leb-true, ltb-true, not-true}
use Rattle.gov_ids.specs.of_maps.Words.{repeats}
use Rattle.gov_ids.specs.declared.Account.{Account}
use Rattle.gov_ids.specs.declared.Credential.{Credential}
use Rattle.gov_ids.specs.Orders.{account_cmp, credential_cmp}
use Rattle.tx_records.specs.declared.genesis.Genesis.{Genesis}
use Rattle.tx_records.specs.declared.limits.TheConstants.{OUTPUT_LIMIT, SLOT_LIMIT, TX_LIST_LIMIT}
use Rattle.tx_records.specs.declared.record.Rewards.{Rewards}
use Rattle.tx_records.specs.declared.tx.ProposalRecord.{ProposalRecord}
use Rattle.tx_records.specs.declared.tx.Tx.{Tx}
use Rattle.tx_records.specs.GenesisLimits as genesis
use Rattle.tx_records.specs.Limits.{are_params, is_action, is_slot}
use Rattle.tx_records.specs.RewardsLimits as rewards
use Rattle.tx_records.specs.TxLimits as tx

-- of a transaction: how many outputs and proposals it has at most, that it names no account twice, and its actions
pub record TxParts (t : Tx) : Type 0 where
  pub outputs : length t.outputs ≤ OUTPUT_LIMIT
  pub proposals : length t.proposals ≤ TX_LIST_LIMIT
  pub withdrawals : repeats account_cmp (map (λ (x : Account × ℕ). x.0) t.withdrawals) ≡ false
  pub actions : list_all (λ (p : ProposalRecord). is_action p.action) t.proposals ≡ true

pub tx_parts : (t : Tx) → tx.is_within_limits t ≡ true → TxParts t
tx_parts t h =
    let fee = (and_parts _ _ h).0 in
    let until = (and_parts _ _ fee).0 in
    let from = (and_parts _ _ until).0 in
    let mint = (and_parts _ _ from).0 in
    let returned = (and_parts _ _ mint).0 in
    let outputs = (and_parts _ _ returned).0 in
    let actions = and_parts _ _ (and_parts _ _ outputs).0 in
    let names = and_parts _ _ actions.0 in
    let proposals = and_parts _ _ (and_parts _ _ names.0).0 in
    let withdrawals = (and_parts _ _ proposals.0).0 in
    let collateral = (and_parts _ _ withdrawals).0 in
    record {
      outputs = leb-true (length t.outputs) OUTPUT_LIMIT (and_parts _ _ (and_parts _ _ collateral).0).1;
      proposals = leb-true (length t.proposals) TX_LIST_LIMIT proposals.1;
      withdrawals = not-true _ names.1;
      actions = actions.1;
    }

-- of a genesis: its slot, the length of its epochs, its parameters and the expiries of its DReps
pub record GenesisParts (g : Genesis) : Type 0 where
  pub slot : g.slot < SLOT_LIMIT
  pub long : 0 < g.epoch_length
  pub params : are_params g.params ≡ true
  pub expiries : list_all (λ (d : Credential × ℕ × ℕ). is_slot d.2) g.dreps ≡ true

pub genesis_parts : (g : Genesis) → genesis.is_within_limits g ≡ true → GenesisParts g
genesis_parts g h =
    let params = and_parts _ _ (and_parts _ _ (and_parts _ _ h).0).0 in
    let expiries = and_parts _ _ params.0 in
    let members = (and_parts _ _ expiries.0).0 in
    let dreps = (and_parts _ _ members).0 in
    let pools = (and_parts _ _ dreps).0 in
    let accounts = (and_parts _ _ pools).0 in
    let outputs = (and_parts _ _ accounts).0 in
    let version = (and_parts _ _ outputs).0 in
    let epochs = (and_parts _ _ version).0 in
    let long = and_parts _ _ (and_parts _ _ epochs).0 in
    record {
      slot = ltb-true g.slot SLOT_LIMIT (and_parts _ _ long.0).1;
      long = ltb-true 0 g.epoch_length long.1;
      params = params.1;
      expiries = expiries.1;
    }

-- a reward update names no account twice
pub own_rewards : (u : Rewards) → rewards.is_within_limits u ≡ true → repeats credential_cmp (map (λ (r : Credential × ℕ). r.0) u.rewards) ≡ false
own_rewards u h =
    let treasury = (and_parts _ _ h).0 in
    let fees = (and_parts _ _ treasury).0 in
    let reserves = (and_parts _ _ fees).0 in
    not-true _ (and_parts _ _ (and_parts _ _ reserves).0).1
