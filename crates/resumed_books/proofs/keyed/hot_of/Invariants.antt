use Rattle.std.proofs.Common.{◌≡◌, [], drop}
use Rattle.gov_ids.specs.Orders.{credential_cmp}
use Rattle.maps.specs.Maps.{with_values}
use Rattle.resumed_books.proofs.keyed.hot_of.Given as goal

-- the entries so far with those that are left are all
abbrev pub invariant-loop-cold : goal.invariant-loop-cold
invariant-loop-cold l = with_values credential_cmp (drop l.cold-index l.cold-items) l.book ≡ with_values credential_cmp l.fn.hot []
