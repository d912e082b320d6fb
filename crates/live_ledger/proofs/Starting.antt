-- The ledger of a genesis that breaks no rule.
use Rattle.std.proofs.Common.{◌≡◌, ℕ, ◌/◌, List, [], true, None, arith}
use Rattle.std.proofs.Math.Nat.{div-le_self}
use Rattle.std.proofs.lemmas.Bool.{ltb-false}
use Rattle.book_records.specs.declared.pool.Pool.{Pool}
use Rattle.gov_ids.specs.declared.Credential.{Credential}
use Rattle.gov_ids.specs.declared.PoolId.{PoolId}
use Rattle.gov_actions.specs.declared.action.Proposal.{Proposal}
use Rattle.gov_actions.specs.declared.state.EnactState.{EnactState}
use Rattle.gov_actions.specs.declared.state.HotState.{HotState}
use Rattle.tx_records.proofs.Parts.{genesis_parts}
use Rattle.tx_records.specs.declared.genesis.Genesis.{Genesis}
use Rattle.dormant_laws.specs.of_run_model.Genesis.{genesis_fault, hot_of_genesis, ledger_of_genesis, state_of_genesis}
use Rattle.dormant_laws.proofs.Dormant.{genesis_timely}
use Rattle.drep_book.specs.Dreps.{Dreps}
use Rattle.stake_book.specs.Stakes.{Stakes, accounts_of}
use Rattle.coin_frac.specs.declared.TheConstants.{SUPPLY_LIMIT}
use Rattle.tx_records.specs.GenesisLimits.{is_within_limits}
use Rattle.genesis_books.proofs.proofs_of_genesis_balance.Start.{genesis_holds_supply, genesis_is_sound, unbroken_genesis, seated_first}
use Rattle.live_ledger.specs.Kept.{IsLiveLedger}

-- the ledger with the parts that were made for it
pub made_ledger : (g : Genesis) (state : EnactState) (length : ℕ) (stake : Stakes) (pools : List (PoolId × Pool)) (dreps : Dreps) (hot : List (Credential × HotState)) (proposals : List Proposal)
    → state ≡ state_of_genesis g → length ≡ g.epoch_length → stake.outputs.outputs ≡ (ledger_of_genesis g).outputs → stake.outputs.used ≡ (ledger_of_genesis g).used
    → accounts_of stake ≡ (ledger_of_genesis g).accounts → pools ≡ (ledger_of_genesis g).pools → dreps.dreps ≡ (ledger_of_genesis g).dreps → dreps.dormant ≡ 0 → hot ≡ hot_of_genesis g.committee → proposals ≡ []
    → record (ledger_of_genesis g) {
      dormant = dreps.dormant;
      state = state;
      epoch = g.slot / length;
      outputs = stake.outputs.outputs;
      used = stake.outputs.used;
      accounts = accounts_of stake;
      pools = pools;
      dreps = dreps.dreps;
      hot = hot;
      proposals = proposals;
    } ≡ ledger_of_genesis g
made_ledger g state length stake pools dreps hot proposals s n o u a p d awake h none =
    λ i. record (ledger_of_genesis g) { dormant = awake i; state = s i; epoch = g.slot / n i; outputs = o i; used = u i; accounts = a i; pools = p i; dreps = d i; hot = h i; proposals = none i }

-- it keeps what a ledger keeps
pub genesis_kept : (g : Genesis) → is_within_limits g ≡ true → genesis_fault g ≡ None → IsLiveLedger (ledger_of_genesis g)
genesis_kept g within none =
    let timely = genesis_timely g within in
    record {
      sound = genesis_is_sound g;
      balanced = genesis_holds_supply g none;
      within = ltb-false SUPPLY_LIMIT g.supply (unbroken_genesis g none).within;
      early = omega (arith, (genesis_parts g within).slot, div-le_self g.slot g.epoch_length);
      timely = timely.0;
      active = timely.1;
      proposed = tt;
      voted = tt;
      seated = seated_first g.committee;
    }
