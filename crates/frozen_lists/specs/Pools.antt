-- The pools of mark as they were frozen, by lists of entries and reward accounts.
-- (RatifyEnv of the formal specification; that deposits count with pools is own)
use Rattle.std.specs.Prelude.{ℕ, ◌+◌, Bool, List, Option, filter, option_and_then, sum_by, unwrap_or}
use Rattle.maps.specs.Maps.{value_at}
use Rattle.maps.specs.Words.{holds, some_and}
use Rattle.gov_ids.specs.declared.Account.{Account}
use Rattle.gov_ids.specs.declared.Credential.{Credential}
use Rattle.gov_ids.specs.declared.Drep.{Drep}
use Rattle.gov_ids.specs.declared.PoolId.{PoolId}
use Rattle.gov_ids.specs.Orders.{credential_cmp, pool_cmp}
use Rattle.gov_ids.specs.Same.{same_pool}
use Rattle.book_records.specs.declared.Entry.{Entry}
use Rattle.book_records.specs.declared.Registered.{Registered}
use Rattle.gov_actions.specs.declared.action.Proposal.{Proposal}
use Rattle.gov_model.specs.Sides.{default_of_delegation}
use Rattle.gov_model.specs.Snapshot.{Snapshot}
use Rattle.snapshots.specs.declared.frozen.FrozenPool.{FrozenPool}
use Rattle.frozen_lists.specs.declared.frozen.Parts.{Parts}

-- the registration of a credential
abbrev pub registration_in : List (Credential × Entry) → Credential → Option Registered
registration_in entries c = option_and_then (λ (e : Entry). e.registered) (value_at credential_cmp entries c)

-- whether a credential is registered and delegates to a pool
abbrev pub delegates_to : List (Credential × Entry) → PoolId → Credential → Bool
delegates_to entries pool c = some_and (λ (r : Registered). holds same_pool r.pool pool) (registration_in entries c)

-- the deposits that return to those that delegate to a pool, in lovelace
abbrev pub paid_with : List (Credential × Entry) → List Proposal → PoolId → ℕ
paid_with entries ps pool = sum_by (λ (p : Proposal). p.deposit) (filter (λ (p : Proposal). delegates_to entries pool p.account.cred) ps)

-- the vote delegation of an account, if it is registered and has one
abbrev pub delegation_in : List (Credential × Entry) → Option Account → Option Drep
delegation_in entries account =
    option_and_then (λ (r : Registered). r.drep) (option_and_then (λ (a : Account). registration_in entries a.cred) account)

-- a pool of mark with its stake, by entries, reward accounts and deposits
abbrev pub pool_by : List (Credential × Entry) → List (PoolId × Account) → List (PoolId × ℕ) → PoolId × ℕ → FrozenPool
pool_by entries accounts deposits m =
    let account : Option Account = value_at pool_cmp accounts m.0 in
    record {
      pool = m.0;
      account = account;
      stake = m.1 + unwrap_or (value_at pool_cmp deposits m.0) 0;
      default_vote = default_of_delegation (delegation_in entries account);
    }

-- the snapshot of these lists
abbrev pub snapshot_of : Parts → List (Credential × Entry) → List (PoolId × ℕ) → List (PoolId × Account) → Snapshot
snapshot_of parts entries mark accounts = record {
  epoch = parts.epoch;
  entries = entries;
  dreps = parts.dreps.items;
  mark = mark;
  pool_accounts = accounts;
  hot = parts.hot.items;
  proposals = parts.proposals.items;
  start = parts.start;
}
