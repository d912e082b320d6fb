-- How a visit changes a count. (Own)
use Rattle.std.specs.Prelude.{ℕ, ◌≡◌, ◌+◌, List, Option, Some, None, option_and_then, slice_get}
use Rattle.gov_ids.specs.declared.Credential.{Credential}
use Rattle.gov_ids.specs.declared.Drep.{Drep}
use Rattle.gov_ids.specs.Orders.{drep_cmp}
use Rattle.book_records.specs.declared.Entry.{Entry}
use Rattle.book_records.specs.declared.Registered.{Registered}
use Rattle.maps.specs.Maps.{changed_at}
use Rattle.drep_pulser.specs.Count.{Count}
use Rattle.drep_pulser.specs.Facts.{IsCountIn, weight_by}

-- the DRep that a registered entry delegates to
abbrev pub drep_of : Entry → Option Drep
drep_of e = option_and_then (λ (r : Registered). r.drep) e.registered

-- the sums, with n more for a DRep
abbrev pub with_more : Option Drep → ℕ → List (Drep × ℕ) → List (Drep × ℕ)
with_more None n sums = sums
with_more (Some d) n sums = changed_at drep_cmp d (λ s. s + n) sums

-- the count with one more entry visited
abbrev pub visited : Credential × Entry → Count → Count
visited e c = record {
  cursor = Some e.0;
  done = c.done + 1;
  total = c.total;
  workers = c.workers;
  sums = with_more (drep_of e.1) (weight_by c.deposits e) c.sums;
  deposits = c.deposits;
}

-- the entry is the next one among some entries that the count is over
abbrev pub IsNextIn : Credential × Entry → Count → Type 0
IsNextIn e c = (es : List (Credential × Entry)) × IsCountIn es c × (slice_get es c.done ≡ Some e)
