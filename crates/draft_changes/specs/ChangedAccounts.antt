-- The accounts that a draft changed, as contracts see them, and what is stored of them. (Own)
-- Each registration has the number of the change that wrote it,
-- and each DRep that left has the number of its leaving.
use Rattle.std.specs.Prelude.{ℕ, ◌+◌, Bool, false, List, [], Option, Some, map, option_map, nat_lt, if◌then◌else◌}
use Rattle.maps.specs.Maps.{value_at, with_key, with_value, each_value}
use Rattle.maps.specs.Words.{some_and}
use Rattle.gov_ids.specs.declared.Credential.{Credential}
use Rattle.gov_ids.specs.declared.Drep.{Drep}
use Rattle.gov_ids.specs.declared.Drep.TheVariants as drep
use Rattle.gov_ids.specs.Orders.{credential_cmp}
use Rattle.book_records.specs.declared.Registered.{Registered}
use Rattle.book_records.specs.Delegations.{delegates_to_drep, without_drep}
use Rattle.draft_changes.specs.declared.account_changes.Written.{Written}

-- the changed registrations, none if an account left; the DReps that left; the number of changes
pub record ChangedAccounts : Type 0 where
  pub accounts : List (Credential × Option Registered)
  pub left : List Credential
  pub changes : ℕ

-- nothing is changed
abbrev pub none_changed : ChangedAccounts
none_changed = record { accounts = []; left = []; changes = 0 }

-- adds that registration of c
abbrev pub with_change : Credential → Option Registered → ChangedAccounts → ChangedAccounts
with_change c to a = record a { accounts = with_value credential_cmp c to a.accounts; changes = a.changes + 1 }

-- a registration without its delegation to the DRep, if it has one
abbrev pub ended : Credential → Registered → Registered
ended c r = if delegates_to_drep c r then without_drep r else r

-- adds a DRep that left, and ends the delegations to it
abbrev pub with_leaving : Credential → ChangedAccounts → ChangedAccounts
with_leaving c a = record {
  accounts = each_value (λ q to. option_map (ended c) to) a.accounts;
  left = with_key credential_cmp c a.left;
  changes = a.changes + 1;
}

-- ---- what is stored

-- the DRep left after the change of this number
abbrev pub has_left_after : List (Credential × ℕ) → ℕ → Option Drep → Bool
has_left_after left number (Some (drep.Registered c)) = some_and (nat_lt number) (value_at credential_cmp left c)
has_left_after left number _ = false

-- a registration that the change of this number wrote, without what ended later
abbrev pub standing : List (Credential × ℕ) → ℕ → Registered → Registered
standing left number r = if has_left_after left number r.drep then without_drep r else r

-- each registration, without what ended later
abbrev pub standing_of : List (Credential × ℕ) → List (Credential × Written) → List (Credential × Option Registered)
standing_of left entries = map (λ e. (e.0, option_map (standing left e.1.number) e.1.to)) entries
