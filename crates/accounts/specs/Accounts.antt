-- The account entries, live and frozen.
-- (DState of the formal specification; that entries with stake alone are among them is own)
use Rattle.std.specs.Prelude.{Bool, ◌==◌, ◌&&◌, is_none, List, if◌then◌else◌}
use Rattle.gov_ids.specs.declared.Credential.{Credential}
use Rattle.gov_ids.specs.Orders.{credential_cmp}
use Rattle.book_records.specs.declared.Entry.{Entry}
use Rattle.maps.specs.Maps.{with_value, without_key}
use Rattle.view_map.specs.View.{View}

-- the entries by credential
abbrev pub Accounts : Type 0
Accounts = View Credential Entry

-- no stake and no registration: no entry
abbrev pub is_nothing : Entry → Bool
is_nothing e = (e.stake == 0) && is_none e.registered

-- the entries with this one at c, or without an entry at c if this one is nothing
abbrev pub with_entry : Credential → Entry → List (Credential × Entry) → List (Credential × Entry)
with_entry c e es = if is_nothing e then without_key credential_cmp c es else with_value credential_cmp c e es

-- with the entry put at c; the frozen entries stay
abbrev pub entered : Credential → Entry → Accounts → Accounts
entered c e a = record a { live = with_entry c e a.live }
