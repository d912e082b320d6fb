-- How many accounts delegate to each pool and to each DRep. (Own)
use Rattle.std.specs.Prelude.{ℕ, ◌≡◌, ◌+◌, ◌≤◌, List, Option, Some, None}
use Rattle.std.specs.Option.{option_and_then}
use Rattle.gov_ids.specs.declared.Credential.{Credential}
use Rattle.gov_ids.specs.declared.Drep.{Drep}
use Rattle.gov_ids.specs.declared.Drep.TheVariants as drep
use Rattle.gov_ids.specs.declared.PoolId.{PoolId}
use Rattle.gov_ids.specs.Orders.{credential_cmp, pool_cmp}
use Rattle.book_records.specs.declared.Entry.{Entry}
use Rattle.book_records.specs.declared.Registered.{Registered}
use Rattle.maps.specs.Maps.{IsMap, sum_values}
use Rattle.stake_book.specs.Sums.{amount_at, amount_for, pool_of}

-- the credential of a DRep that is registered
abbrev pub credential_of : Drep → Option Credential
credential_of (drep.Registered c) = Some c
credential_of _ = None

-- the DRep that an entry delegates to
abbrev pub drep_of : Entry → Option Credential
drep_of e = option_and_then (λ (r : Registered). option_and_then credential_of r.drep) e.registered

-- 1 where the entry delegates to the pool, 0 where not
abbrev pub joins_pool : PoolId → Entry → ℕ
joins_pool p e = amount_for pool_cmp 1 (pool_of e) p

-- 1 where the entry delegates to the DRep, 0 where not
abbrev pub joins_drep : Credential → Entry → ℕ
joins_drep c e = amount_for credential_cmp 1 (drep_of e) c

-- how many accounts delegate to each pool and to each DRep
pub record Counted : Type 0 where
  pub pools : List (PoolId × ℕ)
  pub dreps : List (Credential × ℕ)

-- the counts are those of the entries, which are in order
pub record AreCounted (s : Counted) (entries : List (Credential × Entry)) : Type 0 where
  pub in_order : IsMap credential_cmp entries
  pub pools : (p : PoolId) → amount_at pool_cmp s.pools p ≡ sum_values (joins_pool p) entries
  pub dreps : (c : Credential) → amount_at credential_cmp s.dreps c ≡ sum_values (joins_drep c) entries

-- the delegations of the entry are counted
pub record HasCounted (e : Entry) (s : Counted) : Type 0 where
  pub pools : (p : PoolId) → joins_pool p e ≤ amount_at pool_cmp s.pools p
  pub dreps : (c : Credential) → joins_drep c e ≤ amount_at credential_cmp s.dreps c

-- the counts after an entry has become another
pub record AreRecounted (before after : Entry) (s t : Counted) : Type 0 where
  pub pools : (p : PoolId) → amount_at pool_cmp t.pools p + joins_pool p before ≡ amount_at pool_cmp s.pools p + joins_pool p after
  pub dreps : (c : Credential) → amount_at credential_cmp t.dreps c + joins_drep c before ≡ amount_at credential_cmp s.dreps c + joins_drep c after
