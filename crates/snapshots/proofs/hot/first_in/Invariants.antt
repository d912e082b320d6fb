use Rattle.std.proofs.Common.{◌≡◌, drop}
use Rattle.gov_ids.specs.Orders.{credential_cmp}
use Rattle.maps.specs.Maps.{value_at}
use Rattle.snapshots.proofs.hot.first_in.Given as goal

-- the value is among the entries that are left
abbrev pub invariant-loop-key : goal.invariant-loop-key
invariant-loop-key l = value_at credential_cmp (drop l.key-index l.entries) l.cold ≡ value_at credential_cmp l.entries l.cold
