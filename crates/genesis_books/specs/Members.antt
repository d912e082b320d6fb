-- The hot keys of the members of a genesis, one after another. (Own)
use Rattle.std.specs.Prelude.{List, Option, Some, None}
use Rattle.maps.specs.Maps.{with_value}
use Rattle.gov_ids.specs.declared.Credential.{Credential}
use Rattle.gov_ids.specs.Orders.{credential_cmp}
use Rattle.gov_actions.specs.declared.state.HotState.{HotState}
use Rattle.gov_actions.specs.declared.state.HotState.TheVariants.{Hot}

-- adds the hot key of a cold key, if it has one
abbrev pub with_hot_key : Credential → Option Credential → List (Credential × HotState) → List (Credential × HotState)
with_hot_key cold None hot = hot
with_hot_key cold (Some key) hot = with_value credential_cmp cold (Hot key) hot
