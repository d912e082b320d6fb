use Rattle.std.proofs.Common.{◌≡◌, drop}
use Rattle.std.specs.List.{list_all}
use Rattle.gov_ids.specs.declared.Account.{Account}
use Rattle.gov_ids.specs.declared.PoolId.{PoolId}
use Rattle.gov_ids.specs.Orders.{pool_cmp}
use Rattle.maps.specs.Maps.{has_key}
use Rattle.resume_checks.proofs.forms.are_of_mark.Given as goal

-- all are of mark if and only if those that are left are
abbrev pub invariant-loop-pool : goal.invariant-loop-pool
invariant-loop-pool l = list_all (λ (p : PoolId × Account). has_key pool_cmp l.mark p.0) (drop l.pool-index l.accounts) ≡ list_all (λ (p : PoolId × Account). has_key pool_cmp l.mark p.0) l.accounts
