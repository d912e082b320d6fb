use Rattle.std.proofs.Common.{◌≡◌, drop}
use Rattle.gov_ids.specs.Orders.{credential_cmp}
use Rattle.maps.specs.Maps.{with_values}
use Rattle.shown_lists.specs.Shows.{hot_of_members}
use Rattle.shown_lists.proofs.hot.add_members.Given as goal

-- with those that are left, the book has all
abbrev pub invariant-loop-row : goal.invariant-loop-row
invariant-loop-row l = with_values credential_cmp (hot_of_members (drop l.row-index l.rows)) l.book ≡ with_values credential_cmp (hot_of_members l.rows) l.fn.book
