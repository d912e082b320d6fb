-- How the delegations of entries and registrations to pools or DReps end. (Own)
use Rattle.std.specs.Prelude.{Bool, List, Option, Some, None, fold, is_some, option_map, if◌then◌else◌}
use Rattle.std.specs.List.{list_any}
use Rattle.std.specs.Map.{keys_of}
use Rattle.std.specs.Option.{option_and_then}
use Rattle.gov_ids.specs.declared.Credential.{Credential}
use Rattle.book_records.specs.declared.Entry.{Entry}
use Rattle.book_records.specs.declared.Registered.{Registered}
use Rattle.book_records.specs.Delegations.{without_drep}
use Rattle.gov_ids.specs.Orders.{credential_cmp, pool_cmp}
use Rattle.maps.specs.Maps.{has_key, changed_at, changed_where, each_value, entries_where}
use Rattle.stake_book.specs.declared.leaving.Leaving.{Leaving}
use Rattle.stake_book.specs.declared.leaving.Leaving.TheVariants.{Pools, Dreps}
use Rattle.stake_book.specs.Delegators.{Counted}
use Rattle.stake_book.specs.Stakes.{delegates_to_dreps, delegates_to_pools, without_pool}

-- whether a registration delegates to what leaves
abbrev pub is_cleared : Leaving → Registered → Bool
is_cleared (Pools pools) r = delegates_to_pools pools.keys r
is_cleared (Dreps dreps) r = delegates_to_dreps dreps.keys r

-- the registration without that delegation
abbrev pub cleared : Leaving → Registered → Registered
cleared (Pools pools) r = without_pool r
cleared (Dreps dreps) r = without_drep r

-- the registration without that delegation; none where it has no such delegation
abbrev pub change_of : Leaving → Registered → Option Registered
change_of l r = if is_cleared l r then Some (cleared l r) else None

-- an entry without such a delegation
abbrev pub entry_without : Leaving → Entry → Entry
entry_without l e = record e { registered = option_map (λ r. if is_cleared l r then cleared l r else r) e.registered }

-- the entries without such delegations
abbrev pub entries_without : Leaving → List (Credential × Entry) → List (Credential × Entry)
entries_without l entries = each_value (λ c e. entry_without l e) entries

-- the credentials of the entries with such a delegation, in order
abbrev pub delegating : Leaving → List (Credential × Entry) → List Credential
delegating l entries = keys_of (entries_where (λ c (e : Entry). is_some (option_and_then (change_of l) e.registered)) entries)

-- the entries after the delegations of these credentials have ended, one after another
abbrev pub ended_at : Leaving → List Credential → List (Credential × Entry) → List (Credential × Entry)
ended_at l cs entries = fold (λ es c. changed_at credential_cmp c (entry_without l) es) entries cs

-- the accounts without such delegations
abbrev pub accounts_without : Leaving → List (Credential × Registered) → List (Credential × Registered)
accounts_without l accounts = changed_where (λ c r. is_cleared l r) (cleared l) accounts

-- whether one of what leaves has a delegator
abbrev pub have_any : Leaving → Counted → Bool
have_any (Pools pools) s = list_any (has_key pool_cmp s.pools) pools.keys
have_any (Dreps dreps) s = list_any (has_key credential_cmp s.dreps) dreps.keys
