-- The count of a World's frozen entries, whether it goes on or has ended.
use Rattle.std.proofs.Common.{◌≡◌, List, subst}
use Rattle.book_records.specs.declared.Entry.{Entry}
use Rattle.drep_pulser.specs.declared.Pulser.{Pulser}
use Rattle.drep_pulser.specs.declared.Pulser.TheVariants.{Counting, Counted}
use Rattle.drep_pulser.specs.Facts.{IsCountIn}
use Rattle.drep_pulser.specs.Pulsers.{GoesOnIn, IsPulserOf}
use Rattle.gov_ids.specs.declared.Credential.{Credential}
use Rattle.gov_model.specs.Snapshot.{Snapshot}

-- where it goes on, it goes on in the snapshot's entries
pub goes_on : (f : Snapshot) (es : List (Credential × Entry)) (p : Pulser) → f.entries ≡ es → IsPulserOf f p → GoesOnIn es p
goes_on f es (Counting c) same h = subst (λ (l : List (Credential × Entry)). IsCountIn l c) same h.counts
goes_on f es (Counted c) same h = tt
