-- A book of stakes with other entries at its last freeze. (Own)
use Rattle.std.specs.Prelude.{List, not}
use Rattle.std.specs.Map.{keys_of}
use Rattle.book_records.specs.declared.Entry.{Entry}
use Rattle.gov_ids.specs.declared.Credential.{Credential}
use Rattle.gov_ids.specs.Orders.{credential_cmp}
use Rattle.maps.specs.Maps.{entries_where, has_key}
use Rattle.stake_book.specs.Stakes.{Stakes}

-- the book with these entries at its last freeze
abbrev pub with_frozen : List (Credential × Entry) → Stakes → Stakes
with_frozen entries s = record s { accounts = record s.accounts { frozen = entries } }

-- the credentials of the live entries that are not among these
abbrev pub added_to : List (Credential × Entry) → List (Credential × Entry) → List Credential
added_to entries live = keys_of (entries_where (λ c e. not (has_key credential_cmp entries c)) live)
