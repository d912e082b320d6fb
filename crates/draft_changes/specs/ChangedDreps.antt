-- The DReps that a draft changed, as contracts see them. (Own)
use Rattle.std.specs.Prelude.{ℕ, ◌+◌, ◌^◌, ◌<◌, Bool, true, List, Option, option_map, if◌then◌else◌}
use Rattle.std.specs.List.{AllByRecursion}
use Rattle.std.specs.Map.{values_of}
use Rattle.std.specs.Option.{ForSome}
use Rattle.maps.specs.Maps.{with_value, each_value}
use Rattle.gov_ids.specs.declared.Credential.{Credential}
use Rattle.gov_ids.specs.Orders.{credential_cmp}
use Rattle.book_records.specs.declared.DrepState.{DrepState}
use Rattle.book_records.specs.Dormancy.{extended, is_kept_active}
use Rattle.ledger_books.specs.of_drep_book.Dreps.{Dreps}
use Rattle.draft_changes.specs.Changed.{dormant_by, dreps_by, with_dreps}

-- the changed DReps, none if one left, and whether the dormant epochs were added to those before
pub record ChangedDreps : Type 0 where
  pub dreps : List (Credential × Option DrepState)
  pub refreshed : Bool

-- adds that DRep for c, or takes c out
abbrev pub with_change : Credential → Option DrepState → ChangedDreps → ChangedDreps
with_change c to a = record a { dreps = with_value credential_cmp c to a.dreps }

-- a DRep with the dormant epochs added, unless it has expired with them
abbrev pub awakened : ℕ → ℕ → DrepState → DrepState
awakened epoch dormant s = if is_kept_active epoch dormant s then extended dormant s else s

-- adds the dormant epochs, if they were not added before
abbrev pub with_refresh : ℕ → ℕ → ChangedDreps → ChangedDreps
with_refresh epoch dormant a = if a.refreshed then a else record {
  dreps = each_value (λ c to. option_map (awakened epoch dormant) to) a.dreps;
  refreshed = true;
}

-- each changed expiry with the dormant epochs fits into 64 bits
abbrev pub AllAddable : ℕ → List (Credential × Option DrepState) → Type 0
AllAddable dormant dreps =
    AllByRecursion (λ (to : Option DrepState). ForSome to (λ (s : DrepState). s.expiry + dormant < 2 ^ 64)) (values_of dreps)

-- the book with these changes, in an epoch
abbrev pub laid_over : ChangedDreps → ℕ → Dreps → Dreps
laid_over a epoch book = record {
  dreps = with_dreps a.dreps (dreps_by a.refreshed epoch book.dormant book.dreps);
  dormant = dormant_by a.refreshed book.dormant;
}
