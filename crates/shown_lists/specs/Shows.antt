-- Maps of which lines show each key of another list with its value, if it has one. (Own)
use Rattle.std.specs.Prelude.{ℕ, not, Bool, List, [], Option, filter, map}
use Rattle.std.specs.List.{list_any}
use Rattle.maps.specs.Maps.{value_at, with_values}
use Rattle.gov_ids.specs.declared.Account.{Account}
use Rattle.gov_ids.specs.declared.Credential.{Credential}
use Rattle.gov_ids.specs.declared.PoolId.{PoolId}
use Rattle.gov_ids.specs.Orders.{credential_cmp, pool_cmp}
use Rattle.gov_ids.specs.Same.{same_credential}
use Rattle.gov_actions.specs.declared.state.HotState.{HotState}
use Rattle.shown_lists.specs.Present.{present_entries}

-- ---- pools of mark with their reward accounts

-- each pool of mark with its account among these
abbrev pub pools_shown : List (PoolId × ℕ) → List (PoolId × Account) → List (PoolId × Option Account)
pools_shown mark accounts = map (λ m. (m.0, value_at pool_cmp accounts m.0)) mark

-- ---- members with what their cold keys authorized, and the other cold keys

-- a member, and what its cold key authorized
abbrev pub MemberRow : Type 0
MemberRow = (Credential × ℕ) × Option HotState

-- the row of a member, with what its cold key authorized among these
abbrev pub row_shown : List (Credential × HotState) → MemberRow → MemberRow
row_shown hot r = (r.0, value_at credential_cmp hot r.0.0)

-- each member, and what its cold key authorized
abbrev pub members_shown : List (Credential × ℕ) → List (Credential × HotState) → List MemberRow
members_shown members hot = map (λ m. (m, value_at credential_cmp hot m.0)) members

-- a cold key is that of a member
abbrev pub is_of : List (Credential × ℕ) → Credential → Bool
is_of members cold = list_any (λ m. same_credential m.0 cold) members

-- the entries of keys that are not those of members
abbrev pub others_shown : List (Credential × ℕ) → List (Credential × HotState) → List (Credential × HotState)
others_shown members hot = filter (λ h. not (is_of members h.0)) hot

-- both
abbrev pub hot_shown : List (Credential × ℕ) → List (Credential × HotState) → List MemberRow × List (Credential × HotState)
hot_shown members hot = (members_shown members hot, others_shown members hot)

-- what members authorized
abbrev pub hot_of_members : List MemberRow → List (Credential × HotState)
hot_of_members rows = present_entries (map (λ r. (r.0.0, r.1)) rows)

-- what members and others authorized, in order of cold keys
abbrev pub hot_of_all : List MemberRow → List (Credential × HotState) → List (Credential × HotState)
hot_of_all rows others = with_values credential_cmp (hot_of_members rows) (with_values credential_cmp others [])
