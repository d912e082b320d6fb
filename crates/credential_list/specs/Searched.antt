-- A set that answers for a list. (Own)
use Rattle.std.specs.Prelude.{◌≡◌, List}
use Rattle.gov_ids.specs.declared.Credential.{Credential}
use Rattle.gov_ids.specs.Orders.{credential_cmp}
use Rattle.gov_ids.specs.of_maps.Maps.{has_member}

-- a credential is in the set if and only if it is among the items
abbrev pub HasAll : List Credential → List Credential → Type 0
HasAll set items = (c : Credential) → has_member credential_cmp set c ≡ has_member credential_cmp items c
