-- Snapshots that the rows of a certificate show. (Own)
use Rattle.std.specs.Prelude.{◌≡◌, ℕ, Bool, ◌&&◌, List, Option, true}
use Rattle.gov_ids.specs.declared.Account.{Account}
use Rattle.gov_ids.specs.declared.PoolId.{PoolId}
use Rattle.gov_ids.specs.Orders.{pool_cmp}
use Rattle.gov_actions.specs.declared.state.Committee.{Committee}
use Rattle.gov_actions.specs.declared.state.EnactState.{EnactState}
use Rattle.gov_actions.specs.of_pparams.declared.Params.{Params}
use Rattle.gov_model.specs.Snapshot.{Snapshot}
use Rattle.text_forms.specs.Ids.{is_map}
use Rattle.resume_checks.specs.Forms.{are_accounts_of}
use Rattle.certificate_lists.specs.declared.rows.GovernedRows.{GovernedRows}
use Rattle.certificate_lists.specs.declared.rows.SnapshotRows.{SnapshotRows}
use Rattle.committee_rows.specs.Shown.{IsGoverning}
use Rattle.snapshot_reader.specs.declared.made.Made.{Made}

-- the lists of which others are made are in order
pub record IsListed (f : Snapshot) : Type 0 where
  pub governing : IsGoverning (f.start.committee, f.hot)
  pub mark : is_map pool_cmp f.mark ≡ true
  pub pool_accounts : are_accounts_of f.mark f.pool_accounts ≡ true

-- mark is in order, and these are accounts of its pools
abbrev pub are_accounts_in : List (PoolId × ℕ) → List (PoolId × Account) → Bool
are_accounts_in mark accounts = is_map pool_cmp mark && are_accounts_of mark accounts

-- the state that can be enacted of rows, with a committee
abbrev pub start_by : GovernedRows → Params → Option Committee → EnactState
start_by rows params committee = record {
  params = params;
  version = rows.head.1;
  committee = committee;
  document = rows.constitution.0;
  script = rows.constitution.1;
  last = rows.last;
  treasury = rows.head.2;
}

-- the snapshot of rows, with what was made of them
abbrev pub snapshot_by : SnapshotRows → Made → Snapshot
snapshot_by rows made = record {
  epoch = rows.governed.head.0;
  entries = rows.voters.entries;
  dreps = rows.voters.dreps;
  mark = rows.voters.mark;
  pool_accounts = made.accounts;
  hot = made.governing.1.items;
  proposals = made.proposals.items;
  start = start_by rows.governed rows.params made.governing.0;
}
