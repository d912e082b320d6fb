-- Laws: what this crate's calls compute from the books is what a snapshot freezes.
-- A function of src/laws.rt has each law as its contract.
use Rattle.std.specs.Prelude.{◌≡◌, ℕ, List, filter_map, map, option_map, unwrap_or}
use Rattle.maps.specs.Maps.{IsMap, value_at}
use Rattle.gov_ids.specs.declared.Credential.{Credential}
use Rattle.gov_ids.specs.declared.PoolId.{PoolId}
use Rattle.gov_ids.specs.Orders.{pool_cmp}
use Rattle.book_records.specs.declared.pool.Pool.{Pool}
use Rattle.gov_model.specs.Sides.{default_of_delegation, default_vote}
use Rattle.gov_model.specs.Snapshot.{Snapshot}
use Rattle.gov_model.specs.Stake.{deposits_to, is_staked_with}
use Rattle.snapshots.specs.Frozen.{frozen_copy_of}
use Rattle.freeze.specs.Deposits.{paid_by, paid_with, delegates_to}
use Rattle.freeze.specs.Pools.{delegation_of, pool_by}

-- what is paid to a credential is the sum of the deposits that return to it
abbrev pub PaidAreDeposits : Type 0
PaidAreDeposits = (s : Snapshot) (c : Credential) → paid_by s.proposals c ≡ deposits_to s c

-- a credential that delegates to a pool is staked with it
abbrev pub DelegatingAreStaked : Type 0
DelegatingAreStaked = (s : Snapshot) (p : PoolId) (c : Credential) → delegates_to s.entries p c ≡ is_staked_with s p c

-- the default vote of a pool is that of its reward account's delegation
abbrev pub DelegationsAreDefaults : Type 0
DelegationsAreDefaults = (s : Snapshot) (p : PoolId)
    → default_of_delegation (delegation_of s.entries (value_at pool_cmp s.pool_accounts p)) ≡ default_vote s p

-- the pools are the frozen ones, where the snapshot has the reward accounts of these pools
-- and these are the deposits by pool
abbrev pub PoolsAreFrozen : Type 0
PoolsAreFrozen = (s : Snapshot) (pools : List (PoolId × Pool)) (deposits : List (PoolId × ℕ)) → IsMap pool_cmp s.mark
    → s.pool_accounts ≡ filter_map (λ m. option_map (λ (p : Pool). (m.0, p.terms.account)) (value_at pool_cmp pools m.0)) s.mark
    → ((p : PoolId) → unwrap_or (value_at pool_cmp deposits p) 0 ≡ paid_with s.entries s.proposals p)
    → map (pool_by pools s.entries deposits) s.mark ≡ (frozen_copy_of s).pools
