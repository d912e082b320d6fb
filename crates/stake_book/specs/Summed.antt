-- The sums over the live entries, and what they are after an entry has become another. (Own)
use Rattle.std.specs.Prelude.{ℕ, ◌≡◌, ◌+◌, ◌≤◌, List}
use Rattle.gov_ids.specs.declared.Credential.{Credential}
use Rattle.gov_ids.specs.declared.PoolId.{PoolId}
use Rattle.gov_ids.specs.Orders.{credential_cmp}
use Rattle.book_records.specs.declared.Entry.{Entry}
use Rattle.coin_frac.specs.declared.TheConstants.{SUPPLY_LIMIT}
use Rattle.coin_frac.specs.Totals.{total_of}
use Rattle.maps.specs.Maps.{IsMap, sum_values}
use Rattle.stake_book.specs.Delegators.{Counted, AreCounted, HasCounted, AreRecounted}
use Rattle.stake_book.specs.Sums.{balance_of, weight_of, share_of, shared_by, weight_in, stake_in}

-- the sum of the balances, the stake of each pool, and the counts of delegators
pub record Summed : Type 0 where
  pub balances : ℕ
  pub pools : List (PoolId × ℕ)
  pub counts : Counted

-- the sums are those of the entries, which are in order
pub record AreSummed (s : Summed) (entries : List (Credential × Entry)) : Type 0 where
  pub in_order : IsMap credential_cmp entries
  pub within : weight_in entries ≤ SUPPLY_LIMIT
  pub balances : s.balances ≡ sum_values balance_of entries
  pub pools : (p : PoolId) → stake_in s.pools p ≡ sum_values (share_of p) entries
  pub total : total_of s.pools ≡ sum_values shared_by entries
  pub counts : AreCounted s.counts entries

-- the entry is in the sums, and neither it nor the other exceeds the maximum supply
pub record CanBecome (before after : Entry) (s : Summed) : Type 0 where
  pub held : balance_of before ≤ s.balances
  pub balances : s.balances ≤ SUPPLY_LIMIT
  pub pools : (p : PoolId) → share_of p before ≤ stake_in s.pools p
  pub total : total_of s.pools ≤ SUPPLY_LIMIT
  pub before_within : weight_of before ≤ SUPPLY_LIMIT
  pub after_within : weight_of after ≤ SUPPLY_LIMIT
  pub counts : HasCounted before s.counts

-- the sums after an entry has become another
pub record HasBecome (before after : Entry) (s t : Summed) : Type 0 where
  pub balances : t.balances + balance_of before ≡ s.balances + balance_of after
  pub pools : (p : PoolId) → stake_in t.pools p + share_of p before ≡ stake_in s.pools p + share_of p after
  pub total : total_of t.pools + shared_by before ≡ total_of s.pools + shared_by after
  pub counts : AreRecounted before after s.counts t.counts
