use Rattle.std.proofs.Common.{◌≡◌, [], drop}
use Rattle.gov_ids.specs.Orders.{asset_cmp}
use Rattle.gov_ids.specs.of_maps.Maps.{with_values}
use Rattle.assets.proofs.asset_list.in_order.Given as goal

-- the entries so far with those that are left
abbrev pub invariant-loop-asset : goal.invariant-loop-asset
invariant-loop-asset g l = with_values asset_cmp (drop l.asset-index l.entries) l.ordered.entries ≡ with_values asset_cmp l.entries []
