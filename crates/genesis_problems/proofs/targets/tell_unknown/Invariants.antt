use Rattle.std.proofs.Common.{◌≡◌, drop}
use Rattle.gov_ids.specs.Orders.{pool_cmp}
use Rattle.maps.specs.Maps.{has_member}
use Rattle.genesis_problems.specs.Listing.{is_drep_among}
use Rattle.genesis_problems.specs.Problems.{per_index, per_index_from, target_tests, told_with}
use Rattle.genesis_problems.proofs.targets.tell_unknown.Given as goal

-- with the tests of what is left, all are told
abbrev pub invariant-loop-index : goal.invariant-loop-index
invariant-loop-index l =
    told_with (per_index_from (λ i a. target_tests (has_member pool_cmp l.pools.keys) (is_drep_among l.dreps.keys) i a.3 a.4) l.index (drop l.index l.accounts)) l.told.items
    ≡ told_with (per_index (λ i a. target_tests (has_member pool_cmp l.fn.pools.keys) (is_drep_among l.fn.dreps.keys) i a.3 a.4) l.fn.accounts) l.fn.told.items
