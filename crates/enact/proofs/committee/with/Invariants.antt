use Rattle.std.proofs.Common.{◌≡◌, drop}
use Rattle.gov_ids.specs.Orders.{credential_cmp}
use Rattle.maps.specs.Maps.{with_values}
use Rattle.enact.proofs.committee.with.Given as goal

-- the members so far with those that are yet to come
abbrev pub invariant-loop-cold : goal.invariant-loop-cold
invariant-loop-cold l = with_values credential_cmp (drop l.cold-index l.come) l.members.entries ≡ with_values credential_cmp l.come l.fn.members.entries
