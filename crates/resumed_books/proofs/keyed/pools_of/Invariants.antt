use Rattle.std.proofs.Common.{◌≡◌, [], drop}
use Rattle.gov_ids.specs.Orders.{pool_cmp}
use Rattle.maps.specs.Maps.{with_values}
use Rattle.resumed_books.proofs.keyed.pools_of.Given as goal

-- the entries so far with those that are left are all
abbrev pub invariant-loop-id : goal.invariant-loop-id
invariant-loop-id l = with_values pool_cmp (drop l.id-index l.id-items) l.book ≡ with_values pool_cmp l.fn.pools []
