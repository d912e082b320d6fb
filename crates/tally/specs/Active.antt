-- Who of the committee is active, by the epoch and the hot keys of a frozen epoch.
use Rattle.std.specs.Prelude.{ℕ, List, Option, None, nat_le, if◌then◌else◌}
use Rattle.maps.specs.Maps.{value_at}
use Rattle.gov_ids.specs.declared.Credential.{Credential}
use Rattle.gov_ids.specs.Orders.{credential_cmp}
use Rattle.gov_actions.specs.declared.state.HotState.{HotState}
use Rattle.gov_model.specs.Sides.{hot_key_in}

-- the hot key of an active member: its term is not over, it has a hot key and did not resign
abbrev pub active_key : ℕ → List (Credential × HotState) → Credential × ℕ → Option Credential
active_key epoch hot member = if nat_le epoch member.1 then hot_key_in (value_at credential_cmp hot member.0) else None
