-- The pools of mark as the freeze takes them. (RatifyEnv of the formal specification)
use Rattle.std.specs.Prelude.{ℕ, ◌+◌, List, Option, option_and_then, option_map, unwrap_or}
use Rattle.maps.specs.Maps.{value_at}
use Rattle.gov_ids.specs.declared.Account.{Account}
use Rattle.gov_ids.specs.declared.Credential.{Credential}
use Rattle.gov_ids.specs.declared.Drep.{Drep}
use Rattle.gov_ids.specs.declared.PoolId.{PoolId}
use Rattle.gov_ids.specs.Orders.{pool_cmp}
use Rattle.book_records.specs.declared.Entry.{Entry}
use Rattle.book_records.specs.declared.Registered.{Registered}
use Rattle.book_records.specs.declared.pool.Pool.{Pool}
use Rattle.gov_model.specs.Sides.{default_of_delegation}
use Rattle.snapshots.specs.declared.frozen.FrozenPool.{FrozenPool}
use Rattle.stake_book.specs.Stakes.{registered_at}

-- the reward account of a pool, none where it is not registered
abbrev pub reward_account : List (PoolId × Pool) → PoolId → Option Account
reward_account pools p = option_map (λ (x : Pool). x.terms.account) (value_at pool_cmp pools p)

-- the vote delegation of an account, if it is registered and has one
abbrev pub delegation_of : List (Credential × Entry) → Option Account → Option Drep
delegation_of entries account =
    option_and_then (λ (r : Registered). r.drep) (option_and_then (λ (a : Account). registered_at entries a.cred) account)

-- a pool of mark with its stake, from the current pools, entries and deposits
abbrev pub pool_by : List (PoolId × Pool) → List (Credential × Entry) → List (PoolId × ℕ) → PoolId × ℕ → FrozenPool
pool_by pools entries deposits m =
    let account : Option Account = reward_account pools m.0 in
    record {
      pool = m.0;
      account = account;
      stake = m.1 + unwrap_or (value_at pool_cmp deposits m.0) 0;
      default_vote = default_of_delegation (delegation_of entries account);
    }
