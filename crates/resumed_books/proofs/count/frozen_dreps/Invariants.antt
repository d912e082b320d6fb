use Rattle.std.proofs.Common.{◌≡◌, [], drop, map}
use Rattle.gov_ids.specs.Orders.{credential_cmp}
use Rattle.maps.specs.Maps.{with_values}
use Rattle.resumed_books.proofs.Counted.{as_drep}
use Rattle.resumed_books.proofs.count.frozen_dreps.Given as goal

-- the DReps so far with those that are left are all
abbrev pub invariant-loop-credential : goal.invariant-loop-credential
invariant-loop-credential l = with_values credential_cmp (map as_drep (drop l.credential-index l.dreps)) l.book.dreps ≡ with_values credential_cmp (map as_drep l.dreps) []
