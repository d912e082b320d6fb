-- Which changes of registrations raise no balance, and what these changes keep. (Own)
use Rattle.std.specs.Prelude.{◌≡◌, ◌≤◌, ℕ, List, Option}
use Rattle.maps.specs.Maps.{value_at}
use Rattle.maps.specs.Words.{amount}
use Rattle.gov_ids.specs.declared.Credential.{Credential}
use Rattle.gov_ids.specs.Orders.{credential_cmp}
use Rattle.book_records.specs.declared.Registered.{Registered}
use Rattle.view_map.specs.View.{frozen_of}
use Rattle.stake_book.specs.Stakes.{Stakes}
use Rattle.draft_changes.specs.Changed.{with_registrations}

-- the outputs, the used ids and the frozen entries remain
pub record KeepsOutputs (before after : Stakes) : Type 0 where
  pub outputs : after.outputs ≡ before.outputs
  pub frozen : frozen_of credential_cmp after.accounts ≡ frozen_of credential_cmp before.accounts

-- the balance of a credential, 0 if it is not registered
abbrev pub balance_in : List (Credential × Registered) → Credential → ℕ
balance_in accounts c = amount (λ (r : Registered). r.rewards) (value_at credential_cmp accounts c)

-- no balance is higher after these changes
abbrev pub NoneRises : List (Credential × Option Registered) → List (Credential × Registered) → Type 0
NoneRises changes accounts = (c : Credential) → balance_in (with_registrations changes accounts) c ≤ balance_in accounts c
