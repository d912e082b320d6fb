-- The numbers of the changes of accounts are in range. (Own)
use Rattle.std.specs.Prelude.{◌≡◌, ℕ, ◌<◌, ◌≤◌, List, Some}
use Rattle.maps.specs.Maps.{IsMap, value_at}
use Rattle.gov_ids.specs.declared.Credential.{Credential}
use Rattle.gov_ids.specs.Orders.{credential_cmp}
use Rattle.draft_changes.specs.declared.account_changes.Written.{Written}

-- both maps are in order, no number is above that of the changes made
-- and no DRep left before the first change
pub record AreNumbered (changes : ℕ) (left : List (Credential × ℕ)) (entries : List (Credential × Written)) : Type 0 where
  pub entries_map : IsMap credential_cmp entries
  pub left_map : IsMap credential_cmp left
  pub written : (c : Credential) (w : Written) → value_at credential_cmp entries c ≡ Some w → w.number ≤ changes
  pub after_start : (c : Credential) (n : ℕ) → value_at credential_cmp left c ≡ Some n → 0 < n
  pub leaving : (c : Credential) (n : ℕ) → value_at credential_cmp left c ≡ Some n → n ≤ changes
