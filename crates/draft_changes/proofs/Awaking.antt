-- The DReps of a book with changes, the dormant epochs added or not.
use Rattle.std.proofs.Common.{◌≡◌, ℕ, List, Bool, true, false, Option, option_map, unwrap_or, ap, ◌∙◌}
use Rattle.std.specs.Prelude.{if◌then◌else◌}
use Rattle.maps.proofs.Kept.{IsMap-changed_where}
use Rattle.maps.proofs.Lookups.{value_at-changed_where}
use Rattle.maps.specs.Maps.{IsMap, value_at}
use Rattle.gov_ids.specs.declared.Credential.{Credential}
use Rattle.gov_ids.specs.Orders.{credential_cmp}
use Rattle.gov_ids.proofs.Exacts.{credential_exact}
use Rattle.gov_ids.proofs.Totals.{credential_total}
use Rattle.book_records.specs.declared.DrepState.{DrepState}
use Rattle.book_records.specs.Dormancy.{extended, is_kept_active, with_dormant_added}
use Rattle.draft_changes.specs.Changed.{dreps_by, with_dreps}
use Rattle.draft_changes.specs.ChangedDreps.{awakened}
use Rattle.draft_changes.proofs.Laid.{value_at-with_options}

pub dreps_by_map : (refreshed : Bool) (epoch n : ℕ) (dreps : List (Credential × DrepState)) → IsMap credential_cmp dreps → IsMap credential_cmp (dreps_by refreshed epoch n dreps)
dreps_by_map true epoch n dreps h = IsMap-changed_where credential_cmp (λ c d. is_kept_active epoch n d) (extended n) dreps h
dreps_by_map false epoch n dreps h = h

-- the DRep of a credential
pub drep_now : (changes : List (Credential × Option DrepState)) (refreshed : Bool) (epoch n : ℕ) (dreps : List (Credential × DrepState)) (q : Credential) → IsMap credential_cmp changes → IsMap credential_cmp dreps
    → value_at credential_cmp (with_dreps changes (dreps_by refreshed epoch n dreps)) q
    ≡ unwrap_or (value_at credential_cmp changes q) (if refreshed then option_map (awakened epoch n) (value_at credential_cmp dreps q) else value_at credential_cmp dreps q)
drep_now changes true epoch n dreps q g h =
    value_at-with_options credential_total changes (with_dormant_added epoch n dreps) q g (dreps_by_map true epoch n dreps h)
    ∙ ap (λ (o : Option DrepState). unwrap_or (value_at credential_cmp changes q) o) (value_at-changed_where credential_total credential_exact (λ c d. is_kept_active epoch n d) (extended n) dreps q)
drep_now changes false epoch n dreps q g h = value_at-with_options credential_total changes dreps q g h
