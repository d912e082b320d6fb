use Rattle.std.proofs.Common.{◌≡◌, false, drop}
use Rattle.gov_ids.specs.Orders.{action_id_cmp}
use Rattle.maps.specs.Maps.{has_member}
use Rattle.proposal_store.proofs.voted.last_place.Given as goal

-- the id is none of those from here on
abbrev pub invariant-loop-i : goal.invariant-loop-i
invariant-loop-i l = has_member action_id_cmp (drop l.i l.ids) l.id ≡ false
