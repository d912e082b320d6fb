-- The names of accounts and DReps have all that changes touch.
use Rattle.std.proofs.Common.{◌≡◌, List, [], ◌∷◌, Bool, true, false, cond, ◌&&◌, Option, Some, None, is_some, option_map, map, refl, ap, sym, ◌∙◌}
use Rattle.std.specs.List.{cons_option}
use Rattle.std.specs.Map.{keys_of}
use Rattle.std.proofs.lemmas.Map.Entries.{option_filter}
use Rattle.book_records.specs.declared.DrepState.{DrepState}
use Rattle.book_records.specs.declared.Entry.{Entry}
use Rattle.book_records.specs.declared.Registered.{Registered}
use Rattle.draft_changes.specs.declared.changed_names.ChangedNames.{ChangedNames}
use Rattle.draft_changes.specs.Names.{ChangesNamesOnly}
use Rattle.gov_ids.proofs.Exacts.{credential_exact}
use Rattle.gov_ids.proofs.Totals.{credential_total}
use Rattle.gov_ids.specs.declared.Credential.{Credential}
use Rattle.gov_ids.specs.declared.Drep.{Drep}
use Rattle.gov_ids.specs.declared.Drep.TheVariants as drep
use Rattle.gov_ids.specs.Orders.{credential_cmp, pool_cmp}
use Rattle.ledger_model.specs.Ledger.{Ledger}
use Rattle.maps.proofs.Lookups.{value_at-entries_where}
use Rattle.maps.proofs.Sets.{has_member-in_order}
use Rattle.maps.specs.Maps.{IsMap, entries_where, has_key, has_member, in_order, value_at}
use Rattle.maps.specs.Words.{some_and}
use Rattle.stake_book.proofs.Ended.{delegates_named, names_one}
use Rattle.stake_book.specs.Stakes.{delegates_to_dreps, registrations}
use Rattle.undo_model.specs.Holds.{HoldsOld}
use Rattle.undo_before.specs.Names.{account_names, delegating_entries, delegators, drep_names}
use Rattle.undo_before.specs.Old.{old_at}
use Rattle.undo_before.proofs.Maps.{holds_at, in_neither, no_value}

-- what a filter drops does not pass
dropped : {X : Type 0} (p : X → Bool) (o : Option X) → option_filter p o ≡ None → some_and p o ≡ false
dropped p None h = refl
dropped p (Some x) h =
    elim (p x) as (λ b. cond b (Some x) None ≡ None → b ≡ false) [
      | true ↦ λ h. cc
      | false ↦ λ h. refl
    ] h

-- an account that is not among the delegators delegates to none of them
pub not_delegator : (left : List Credential) (accounts : List (Credential × Registered)) (c : Credential) → IsMap credential_cmp accounts
    → has_member credential_cmp (delegators left accounts) c ≡ false → some_and (delegates_to_dreps left) (value_at credential_cmp accounts c) ≡ false
not_delegator left accounts c m absent =
    dropped (delegates_to_dreps left) (value_at credential_cmp accounts c)
    (sym (value_at-entries_where credential_total credential_exact (λ q r. delegates_to_dreps left r) accounts c m)
    ∙ no_value credential_cmp (entries_where (λ q r. delegates_to_dreps left r) accounts) c absent)

-- a DRep that is not named is not refreshed
not_refreshed : (refreshed : Bool) (dreps : List (Credential × DrepState)) (c : Credential) → has_member credential_cmp (cond refreshed (keys_of dreps) []) c ≡ false
    → (refreshed && has_key credential_cmp dreps c) ≡ false
not_refreshed true dreps c absent = ap (λ (o : Option DrepState). is_some o) (no_value credential_cmp dreps c absent)
not_refreshed false dreps c absent = refl

module _ (names : ChangedNames) (l m : Ledger) (only : ChangesNamesOnly names l m) where
  pub accounts_held : IsMap credential_cmp l.accounts → HoldsOld credential_cmp (old_at credential_cmp l.accounts (account_names names l.accounts)) l.accounts m.accounts
  accounts_held in_order =
      holds_at credential_cmp l.accounts (account_names names l.accounts) m.accounts
      (λ c absent.
      let parts = in_neither credential_cmp names.accounts (delegators names.left l.accounts) c absent in
      only.accounts c parts.0 (not_delegator names.left l.accounts c in_order parts.1))

  pub dreps_held : HoldsOld credential_cmp (old_at credential_cmp l.dreps (drep_names names l.dreps)) l.dreps m.dreps
  dreps_held =
      holds_at credential_cmp l.dreps (drep_names names l.dreps) m.dreps
      (λ c absent.
      let parts = in_neither credential_cmp names.dreps (cond names.refreshed (keys_of l.dreps) []) c absent in
      only.dreps c parts.0 (not_refreshed names.refreshed l.dreps c parts.1))

  pub pools_held : HoldsOld pool_cmp (old_at pool_cmp l.pools names.pools) l.pools m.pools
  pools_held = holds_at pool_cmp l.pools names.pools m.pools only.pools

  pub hot_held : HoldsOld credential_cmp (old_at credential_cmp l.hot names.hot) l.hot m.hot
  hot_held = holds_at credential_cmp l.hot names.hot m.hot only.hot

-- ---- what the code adds

-- the entries that delegate to DReps are the accounts that do
pub delegating_are : (left : List Credential) (entries : List (Credential × Entry)) → delegating_entries left entries ≡ delegators left (registrations entries)
delegating_are left [] = refl
delegating_are left (e ∷ entries) =
    let rest : List (Credential × Entry) = entries_where (λ c (x : Entry). some_and (delegates_to_dreps left) x.registered) entries in
    let more : List (Credential × Registered) = entries_where (λ c r. delegates_to_dreps left r) (registrations entries) in
    elim e.1.registered as (λ (o : Option Registered). keys_of (cond (some_and (delegates_to_dreps left) o) (e ∷ rest) rest)
    ≡ keys_of (entries_where (λ c r. delegates_to_dreps left r) (cons_option (option_map (λ (r : Registered). (e.0, r)) o) (registrations entries)))) [
      | None ↦ delegating_are left entries
      | Some r ↦ elim (delegates_to_dreps left r) as (λ b. keys_of (cond b (e ∷ rest) rest) ≡ keys_of (cond b ((e.0, r) ∷ more) more)) [
        | true ↦ ap (λ (cs : List Credential). e.0 ∷ cs) (delegating_are left entries)
        | false ↦ delegating_are left entries
      ]
    ]

-- none delegates to no DRep
pub no_delegators : (accounts : List (Credential × Registered)) → delegators [] accounts ≡ []
no_delegators [] = refl
no_delegators (a ∷ accounts) = no_delegators accounts

-- the DReps may be in any order
names_in_order : (dreps : List Credential) (o : Option Drep) → names_one (in_order credential_cmp dreps) o ≡ names_one dreps o
names_in_order dreps None = refl
names_in_order dreps (Some (drep.Registered c)) = has_member-in_order credential_total dreps c
names_in_order dreps (Some drep.Abstain) = refl
names_in_order dreps (Some drep.NoConfidence) = refl

pub any_order : (left : List Credential) (accounts : List (Credential × Registered)) → delegators (in_order credential_cmp left) accounts ≡ delegators left accounts
any_order left accounts =
    let same : (r : Registered) → delegates_to_dreps (in_order credential_cmp left) r ≡ delegates_to_dreps left r =
    λ r. delegates_named (in_order credential_cmp left) r ∙ names_in_order left r.drep ∙ sym (delegates_named left r) in
    λ i. keys_of (entries_where (λ c (r : Registered). same r i) accounts)

-- the keys of the expiries are those of the DReps
pub keys_of_expiries : (dreps : List (Credential × DrepState)) → keys_of (map (λ (e : Credential × DrepState). (e.0, e.1.expiry)) dreps) ≡ keys_of dreps
keys_of_expiries [] = refl
keys_of_expiries (d ∷ dreps) = ap (λ (cs : List Credential). d.0 ∷ cs) (keys_of_expiries dreps)
