use Rattle.std.proofs.Common.{◌≡◌}
use Rattle.gov_ids.specs.Orders.{credential_cmp}
use Rattle.maps.specs.Maps.{with_values}
use Rattle.committee_book.proofs.HotBook.with_all.Given as goal

-- what is left laid over the entries so far is all laid over the entries
abbrev pub invariant-loop-cold : goal.invariant-loop-cold
invariant-loop-cold l = with_values credential_cmp l.cold-iterator l.book ≡ with_values credential_cmp l.fn.changed l.fn.self
