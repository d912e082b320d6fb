-- How many cold keys have a hot key. (Own)
use Rattle.std.specs.Prelude.{ℕ, List, filter, length}
use Rattle.gov_ids.specs.declared.Credential.{Credential}
use Rattle.gov_actions.specs.declared.state.HotState.{HotState}
use Rattle.gov_model.specs.Hot.{is_hot_key}

-- how many entries are this hot key
abbrev pub count_of : List (Credential × HotState) → Credential → ℕ
count_of hot c = length (filter (λ h. is_hot_key c h.1) hot)
