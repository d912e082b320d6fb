-- What dormant epochs do to the expiries of DReps. (Own)
-- CIP-1694, Delegated representatives: epochs without a proposal do not count.
-- That they are added with the next proposal is a rule of this ledger.
use Rattle.std.specs.Prelude.{ℕ, ◌+◌, ◌^◌, ◌<◌, Bool, List, nat_le}
use Rattle.std.specs.List.{AllByRecursion}
use Rattle.std.specs.Map.{values_of}
use Rattle.gov_ids.specs.of_maps.Maps.{changed_where}
use Rattle.gov_ids.specs.declared.Credential.{Credential}
use Rattle.book_records.specs.declared.DrepState.{DrepState}

-- the DRep has not expired at the epoch, if the dormant epochs are added
abbrev pub is_kept_active : ℕ → ℕ → DrepState → Bool
is_kept_active epoch dormant d = nat_le epoch (d.expiry + dormant)

-- a DRep with the dormant epochs added to its expiry
abbrev pub extended : ℕ → DrepState → DrepState
extended dormant d = record d { expiry = d.expiry + dormant }

-- the dormant epochs are added to the expiries of DReps that have not expired
abbrev pub with_dormant_added : ℕ → ℕ → List (Credential × DrepState) → List (Credential × DrepState)
with_dormant_added epoch dormant dreps = changed_where (λ c d. is_kept_active epoch dormant d) (extended dormant) dreps

-- each expiry with the dormant epochs is a number of 64 bits
abbrev pub AllFit : ℕ → List (Credential × DrepState) → Type 0
AllFit dormant dreps = AllByRecursion (λ (d : DrepState). d.expiry + dormant < 2 ^ 64) (values_of dreps)
