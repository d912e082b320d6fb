use Rattle.std.proofs.Common.{◌≡◌, ℕ, ◌<◌, Option, get_or}
use Rattle.gov_ids.specs.declared.Account.{Account}
use Rattle.gov_ids.specs.declared.PoolId.{PoolId}
use Rattle.gov_ids.specs.Orders.{pool_cmp}
use Rattle.maps.specs.Maps.{value_at}
use Rattle.shown_lists.proofs.pools.are_shown.Given as goal

-- each line so far shows its pool of mark
abbrev pub invariant-loop-place : goal.invariant-loop-place
invariant-loop-place l = (j : ℕ) (m : PoolId × ℕ) (p : PoolId × Option Account) → j < l.place →
    ((get_or l.mark j m).0, value_at pool_cmp l.accounts (get_or l.mark j m).0) ≡ get_or l.pools j p
