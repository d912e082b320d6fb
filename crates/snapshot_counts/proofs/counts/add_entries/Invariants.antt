use Rattle.std.proofs.Common.{◌≡◌, drop}
use Rattle.gov_ids.specs.Orders.{credential_cmp}
use Rattle.maps.specs.Maps.{with_values}
use Rattle.snapshot_counts.specs.Kept.{kept_entries}
use Rattle.snapshot_counts.proofs.counts.add_entries.Given as goal

-- with those that are left, the book has all
abbrev pub invariant-loop-credential : goal.invariant-loop-credential
invariant-loop-credential l = with_values credential_cmp (kept_entries (drop l.credential-index l.entries)) l.book.live ≡ with_values credential_cmp (kept_entries l.entries) l.fn.book.live
