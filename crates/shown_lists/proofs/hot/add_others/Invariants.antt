use Rattle.std.proofs.Common.{◌≡◌, drop}
use Rattle.gov_ids.specs.Orders.{credential_cmp}
use Rattle.maps.specs.Maps.{with_values}
use Rattle.shown_lists.proofs.hot.add_others.Given as goal

-- with those that are left, the book has all
abbrev pub invariant-loop-cold : goal.invariant-loop-cold
invariant-loop-cold l = with_values credential_cmp (drop l.cold-index l.others) l.book ≡ with_values credential_cmp l.others l.fn.book
