use Rattle.std.proofs.Common.{◌≡◌, [], drop}
use Rattle.gov_ids.specs.Orders.{credential_cmp}
use Rattle.maps.specs.Maps.{with_values}
use Rattle.resumed_books.proofs.keyed.dreps_of.Given as goal

-- the DReps so far with those that are left are all, and the dormant epochs are set
abbrev pub invariant-loop-credential : goal.invariant-loop-credential
invariant-loop-credential l = record {
  rest : with_values credential_cmp (drop l.credential-index l.credential-items) l.book.dreps ≡ with_values credential_cmp l.fn.dreps [];
  dormant : l.book.dormant ≡ l.dormant;
}
