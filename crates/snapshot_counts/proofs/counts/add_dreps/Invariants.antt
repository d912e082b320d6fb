use Rattle.std.proofs.Common.{◌≡◌, drop}
use Rattle.gov_ids.specs.Orders.{credential_cmp}
use Rattle.maps.specs.Maps.{with_values}
use Rattle.snapshot_counts.specs.Kept.{registered}
use Rattle.snapshot_counts.proofs.counts.add_dreps.Given as goal

-- with those that are left, the book has all
abbrev pub invariant-loop-credential : goal.invariant-loop-credential
invariant-loop-credential l = with_values credential_cmp (registered (drop l.credential-index l.dreps)) l.book.dreps ≡ with_values credential_cmp (registered l.dreps) l.fn.book.dreps
