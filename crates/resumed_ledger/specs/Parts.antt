-- Parts of a state of lists. (Own)
use Rattle.std.specs.Prelude.{ℕ, ◌+◌, ◌^◌, ◌<◌, ◌≤◌, List}
use Rattle.book_records.specs.Outputs.{lovelace_in}
use Rattle.coin_frac.specs.declared.TheConstants.{SUPPLY_LIMIT}
use Rattle.gov_actions.specs.declared.state.EnactState.{EnactState}
use Rattle.gov_ids.specs.declared.PoolId.{PoolId}
use Rattle.gov_ids.specs.Orders.{credential_cmp, outref_cmp, pool_cmp, txid_cmp}
use Rattle.gov_model.specs.Laws.{HaveDistinctIds}
use Rattle.gov_model.specs.Proposals.{deposits_of}
use Rattle.gov_model.specs.Snapshot.{Snapshot}
use Rattle.maps.specs.Maps.{IsMap, IsSet}
use Rattle.proposal_store.specs.Store.{AllOrdered}
use Rattle.stake_book.specs.Stakes.{balances_in}
use Rattle.state_lists.specs.declared.lists.BookLists.{BookLists}
use Rattle.state_lists.specs.declared.lists.FrozenState.{FrozenState}

-- what was frozen in an epoch, with the stakes of mark; the state is this one with another treasury
abbrev pub snapshot_in : ℕ → EnactState → List (PoolId × ℕ) → FrozenState → Snapshot
snapshot_in epoch state mark frozen = record {
  epoch = epoch;
  entries = frozen.entries;
  dreps = frozen.dreps;
  mark = mark;
  pool_accounts = frozen.pool_accounts;
  hot = frozen.hot;
  proposals = frozen.proposals;
  start = record state { treasury = frozen.treasury };
}

-- each list is in order, each name once; lovelace and deposits have room
pub record AreSoundBooks (b : BookLists) : Type 0 where
  pub outputs : IsMap outref_cmp b.outputs
  pub used : IsSet txid_cmp b.used
  pub accounts : IsMap credential_cmp b.accounts
  pub pools : IsMap pool_cmp b.pools
  pub dreps : IsMap credential_cmp b.dreps
  pub hot : IsMap credential_cmp b.hot
  pub ids : HaveDistinctIds b.proposals
  pub votes : AllOrdered b.proposals
  pub room : lovelace_in b.outputs + balances_in b.accounts ≤ SUPPLY_LIMIT
  pub deposits : deposits_of b.proposals < 2 ^ 64
