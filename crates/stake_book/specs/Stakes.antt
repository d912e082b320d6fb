-- The outputs and the accounts; each account's stake is what its outputs hold.
-- (UTxOState and DState of the formal specification; the running stake is own)
use Rattle.std.specs.Prelude.{ℕ, ◌≡◌, ◌+◌, ◌≤◌, Bool, false, List, [], Option, Some, None, option_map, sum_by, filter_map}
use Rattle.std.specs.List.{All, list_any}
use Rattle.std.specs.Map.{values_of}
use Rattle.std.specs.Option.{option_and_then}
use Rattle.gov_ids.specs.declared.Credential.{Credential}
use Rattle.gov_ids.specs.declared.OutRef.{OutRef}
use Rattle.gov_ids.specs.declared.PoolId.{PoolId}
use Rattle.gov_ids.specs.declared.TxId.{TxId}
use Rattle.gov_ids.specs.Orders.{credential_cmp, outref_cmp, pool_cmp}
use Rattle.gov_ids.specs.Same.{same_credential, same_pool}
use Rattle.book_records.specs.declared.Entry.{Entry}
use Rattle.book_records.specs.declared.Output.{Output}
use Rattle.book_records.specs.declared.Registered.{Registered}
use Rattle.book_records.specs.Outputs.{lovelace_in}
use Rattle.coin_frac.specs.declared.TheConstants.{SUPPLY_LIMIT}
use Rattle.book_records.specs.Delegations.{delegates_to_drep, without_drep}
use Rattle.maps.specs.Maps.{IsMap, value_at, with_value, without_key, has_member, changed_where, entries_where, sum_values}
use Rattle.maps.specs.Words.{amount, holds, some_and}
use Rattle.utxo_set.specs.Utxos.{Utxos}
use Rattle.accounts.specs.Accounts.{Accounts, is_nothing, entered}

-- the unspent outputs and used ids, and the account entries
pub record Stakes : Type 0 where
  pub outputs : Utxos
  pub accounts : Accounts

-- ---- what a book holds

-- a registered entry, as its registration
abbrev pub registration_in : Credential × Entry → Option (Credential × Registered)
registration_in e = option_map (λ (r : Registered). (e.0, r)) e.1.registered

-- the registrations of the registered entries, in order
abbrev pub registrations : List (Credential × Entry) → List (Credential × Registered)
registrations entries = filter_map registration_in entries

-- the registered accounts, in order
abbrev pub accounts_of : Stakes → List (Credential × Registered)
accounts_of s = registrations s.accounts.live

-- the sum of the reward balances
abbrev pub balances_in : List (Credential × Registered) → ℕ
balances_in accounts = sum_values (λ (r : Registered). r.rewards) accounts

-- the lovelace in the outputs with this stake part
abbrev pub stake_held : List (OutRef × Output) → Credential → ℕ
stake_held outputs c = lovelace_in (entries_where (λ r (o : Output). holds same_credential o.address.stake c) outputs)

-- the output stake and the balances of the accounts that delegate to a pool, in lovelace
abbrev pub pool_stake_in : Stakes → PoolId → ℕ
pool_stake_in s p =
    sum_by (λ (a : Credential × Registered). stake_held s.outputs.outputs a.0 + a.1.rewards)
    (entries_where (λ c (r : Registered). holds same_pool r.pool p) (accounts_of s))

-- with n lovelace more, all outputs and balances together are at most the maximum supply
abbrev pub HasRoom : ℕ → Stakes → Type 0
HasRoom n s = lovelace_in s.outputs.outputs + balances_in (accounts_of s) + n ≤ SUPPLY_LIMIT

-- the stake in the entry of a credential, 0 where there is none
abbrev pub stake_at : List (Credential × Entry) → Credential → ℕ
stake_at entries c = amount (λ (e : Entry). e.stake) (value_at credential_cmp entries c)

-- the registration in the entry of a credential
abbrev pub registered_at : List (Credential × Entry) → Credential → Option Registered
registered_at entries c = option_and_then (λ (e : Entry). e.registered) (value_at credential_cmp entries c)

-- the entry of a credential; where there is none, one without stake and registration
abbrev pub whole_entry : List (Credential × Entry) → Credential → Entry
whole_entry entries c = record { stake = stake_at entries c; registered = registered_at entries c }

-- each stake is what the outputs hold; each entry has stake or a registration;
-- entries and accounts are in order, each once; the supply is not exceeded
pub record AreKept (s : Stakes) : Type 0 where
  pub stakes : (c : Credential) → stake_at s.accounts.live c ≡ stake_held s.outputs.outputs c
  pub entries : All (λ e. is_nothing e ≡ false) (values_of s.accounts.live)
  pub live : IsMap credential_cmp s.accounts.live
  pub in_order : IsMap credential_cmp (accounts_of s)
  pub room : HasRoom 0 s

-- ---- the book after a call

-- the stake part of the output at r, if there is one
abbrev pub stake_part_at : List (OutRef × Output) → OutRef → Option Credential
stake_part_at outputs r = option_and_then (λ (o : Output). o.address.stake) (value_at outref_cmp outputs r)

-- the accounts with that stake for a stake part, whose registration stays;
-- without a stake part nothing changes
abbrev pub with_stake : Option Credential → (Credential → ℕ) → Accounts → Accounts
with_stake None stake a = a
with_stake (Some c) stake a = entered c (record { stake = stake c; registered = registered_at a.live c }) a

-- the accounts with that registration for c, whose stake stays
abbrev pub with_registered : Credential → Option Registered → Accounts → Accounts
with_registered c to a = entered c (record { stake = stake_at a.live c; registered = to }) a

-- the book without the output at r; its stake part has the stake of the outputs that remain
abbrev pub spent : OutRef → Stakes → Stakes
spent r s =
    let left = without_key outref_cmp r s.outputs.outputs in
    record {
      outputs = record s.outputs { outputs = left };
      accounts = with_stake (stake_part_at s.outputs.outputs r) (stake_held left) s.accounts;
    }

-- the book with an output at r; its stake part has the stake of the outputs after that
abbrev pub added : OutRef → Output → Stakes → Stakes
added r o s =
    let more = with_value outref_cmp r o s.outputs.outputs in
    record {
      outputs = record s.outputs { outputs = more };
      accounts = with_stake o.address.stake (stake_held more) s.accounts;
    }

-- the book with that registration for c
abbrev pub with_account : Credential → Option Registered → Stakes → Stakes
with_account c to s = record s { accounts = with_registered c to s.accounts }

-- the book with these used ids
abbrev pub with_used : List TxId → Stakes → Stakes
with_used ids s = record s { outputs = record s.outputs { used = ids } }

-- the book with no output, no used id and no account
abbrev pub no_stakes : Stakes
no_stakes = record { outputs = record { outputs = []; used = [] }; accounts = record { live = []; frozen = [] } }

-- ---- the accounts after delegations have ended

-- whether an account delegates to one of these pools
abbrev pub delegates_to_pools : List PoolId → Registered → Bool
delegates_to_pools pools r = some_and (has_member pool_cmp pools) r.pool

-- an account without its delegation to a pool
abbrev pub without_pool : Registered → Registered
without_pool r = record r { pool = None }

-- the accounts without their delegations to these pools
abbrev pub without_pools : List PoolId → List (Credential × Registered) → List (Credential × Registered)
without_pools pools accounts = changed_where (λ c r. delegates_to_pools pools r) without_pool accounts

-- whether an account delegates its vote to one of these DReps
abbrev pub delegates_to_dreps : List Credential → Registered → Bool
delegates_to_dreps dreps r = list_any (λ c. delegates_to_drep c r) dreps

-- the accounts without their delegations to these DReps
abbrev pub without_dreps : List Credential → List (Credential × Registered) → List (Credential × Registered)
without_dreps dreps accounts = changed_where (λ c r. delegates_to_dreps dreps r) without_drep accounts
