-- Which cold keys have a hot key. (Own)
use Rattle.std.specs.Prelude.{◌≡◌, List, [], Bool, not, ◌&&◌, Option, Some, None}
use Rattle.std.specs.BTreeSet.{BTreeSet}
use Rattle.std.specs.Map.{keys_of}
use Rattle.gov_ids.specs.declared.Credential.{Credential}
use Rattle.gov_ids.specs.Orders.{credential_cmp}
use Rattle.gov_actions.specs.declared.state.HotState.{HotState}
use Rattle.gov_model.specs.Hot.{is_hot_key}
use Rattle.maps.specs.Maps.{IsMap, entries_where, has_key, value_at}
use Rattle.maps.specs.Words.{some_and}

-- the cold keys that have it, in order
abbrev pub holders_of : List (Credential × HotState) → Credential → List Credential
holders_of hot h = keys_of (entries_where (λ cold s. is_hot_key h s) hot)

-- the entries whose cold key has none among the changed, if any are changed
abbrev pub entries_beside : Option (List (Credential × HotState)) → List (Credential × HotState) → List (Credential × HotState)
entries_beside changed hot = entries_where (λ cold s. not (some_and (λ es. has_key credential_cmp es cold) changed)) hot

-- before was this hot key, and s is not
abbrev pub is_left : Credential → Option HotState → HotState → Bool
is_left h before s = some_and (is_hot_key h) before && not (is_hot_key h s)

-- ---- what is kept

-- the keys of a set, if there is one
abbrev pub held_in : Option (BTreeSet Credential) → List Credential
held_in None = []
held_in (Some cold_keys) = cold_keys.keys

-- the cold keys that are kept of a hot key
abbrev pub held_at : List (Credential × BTreeSet Credential) → Credential → List Credential
held_at kept h = held_in (value_at credential_cmp kept h)

-- each hot key has its cold keys
abbrev pub AreHeld : List (Credential × HotState) → List (Credential × BTreeSet Credential) → Type 0
AreHeld hot kept = (h : Credential) → held_at kept h ≡ holders_of hot h

-- the entries are in order, and each hot key has its cold keys
pub record IsIndexed (hot : List (Credential × HotState)) (kept : List (Credential × BTreeSet Credential)) : Type 0 where
  pub in_order : IsMap credential_cmp hot
  pub held : AreHeld hot kept
