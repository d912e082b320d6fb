-- Entries as a book of accounts keeps them. (Own)
use Rattle.std.specs.Prelude.{ℕ, if◌then◌else◌, List, Some, None, map}
use Rattle.gov_ids.specs.declared.Credential.{Credential}
use Rattle.book_records.specs.declared.DrepState.{DrepState}
use Rattle.book_records.specs.declared.Entry.{Entry}
use Rattle.accounts.specs.Accounts.{is_nothing}

-- a registered entry that holds nothing and delegates to nobody
abbrev pub blank_entry : Entry
blank_entry = record { stake = 0; registered = Some (record { deposit = 0; rewards = 0; pool = None; drep = None }) }

-- such an entry, if one has no stake and no registration
abbrev pub kept_entry : Entry → Entry
kept_entry e = if is_nothing e then blank_entry else e

-- each of them as a book keeps it
abbrev pub kept_entries : List (Credential × Entry) → List (Credential × Entry)
kept_entries es = map (λ e. (e.0, kept_entry e.1)) es

-- DReps with their expiries, registered without a deposit
abbrev pub registered : List (Credential × ℕ) → List (Credential × DrepState)
registered ds = map (λ d. (d.0, record { deposit = 0; expiry = d.1 })) ds
