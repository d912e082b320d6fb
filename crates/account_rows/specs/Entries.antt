-- What outputs hold for a credential, and which entries are those of a ledger with them. (Own)
use Rattle.std.specs.Prelude.{ℕ, Bool, List, ◌&&◌, ◌||◌, ◌==◌, if◌then◌else◌, map, unwrap_or}
use Rattle.std.specs.List.{list_all}
use Rattle.gov_ids.specs.declared.Credential.{Credential}
use Rattle.gov_ids.specs.declared.OutRef.{OutRef}
use Rattle.gov_ids.specs.Orders.{credential_cmp}
use Rattle.gov_ids.specs.Same.{same_credential}
use Rattle.book_records.specs.declared.Entry.{Entry}
use Rattle.book_records.specs.declared.Output.{Output}
use Rattle.book_records.specs.declared.Registered.{Registered}
use Rattle.book_records.specs.Outputs.{lovelace_in}
use Rattle.checkpoint_model.specs.Resumable.{is_counted_entry}
use Rattle.maps.specs.Maps.{entries_where, has_key, value_at}
use Rattle.maps.specs.Words.{holds, none_or}
use Rattle.shown_lists.specs.Present.{present_entries}
use Rattle.text_forms.specs.Ids.{is_map}

-- ---- stake

-- what the outputs with this stake part hold
abbrev pub stake_in : List (OutRef × Output) → Credential → ℕ
stake_in outputs c = lovelace_in (entries_where (λ r (o : Output). holds same_credential o.address.stake c) outputs)

-- what an output holds for a credential
abbrev pub held_for : Output → Credential → ℕ
held_for o c = if holds same_credential o.address.stake c then o.lovelace else 0

-- the amount at a credential
abbrev pub amount_of : List (Credential × ℕ) → Credential → ℕ
amount_of amounts c = unwrap_or (value_at credential_cmp amounts c) 0

-- ---- entries

-- the registered credentials among entries, each with its registration
abbrev pub accounts_in : List (Credential × Entry) → List (Credential × Registered)
accounts_in entries = present_entries (map (λ (e : Credential × Entry). (e.0, e.1.registered)) entries)

-- an output holds no lovelace, has no stake part, or has an entry of it
abbrev pub has_entry : List (Credential × Entry) → Output → Bool
has_entry entries o = none_or (λ c. (o.lovelace == 0) || has_key credential_cmp entries c) o.address.stake

-- the stake of an entry is what its credential has
abbrev pub has_stake : (Credential → ℕ) → Credential × Entry → Bool
has_stake stake e = e.1.stake == stake e.0

-- entries are in order, each is registered or has stake, no credential with stake is missing, and
-- the stake of each is that of these outputs
abbrev pub are_entries : List (OutRef × Output) → List (Credential × Entry) → Bool
are_entries outputs entries =
    is_map credential_cmp entries && list_all is_counted_entry entries && list_all (λ (o : OutRef × Output). has_entry entries o.1) outputs && list_all (has_stake (stake_in outputs)) entries
