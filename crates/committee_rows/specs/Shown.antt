-- The rows that show a committee and what cold keys authorized. (Own)
use Rattle.std.specs.Prelude.{◌≡◌, ℕ, List, Option, map, option_map, true}
use Rattle.coin_frac.specs.Fraction.{Fraction}
use Rattle.gov_ids.specs.declared.Credential.{Credential}
use Rattle.gov_ids.specs.Orders.{credential_cmp}
use Rattle.gov_actions.specs.declared.state.Committee.{Committee}
use Rattle.gov_actions.specs.declared.state.HotState.{HotState}
use Rattle.text_forms.specs.of_gov_model.Sides.{members_of}
use Rattle.text_forms.specs.Ids.{is_map}
use Rattle.text_forms.specs.of_text_model.StateLines.{hot_outside}
use Rattle.checkpoint_lists.specs.Shown.{member_row}

-- a committee, if there is one, and what cold keys authorized
abbrev pub Governing : Type 0
Governing = Option Committee × List (Credential × HotState)

-- the members and the cold keys are in order, each once
pub record IsGoverning (g : Governing) : Type 0 where
  pub members : is_map credential_cmp (members_of g.0) ≡ true
  pub hot : is_map credential_cmp g.1 ≡ true

-- the threshold, the members with what their cold keys authorized, and the other cold keys
abbrev pub governing_shown : Governing → Option Fraction × (List ((Credential × ℕ) × Option HotState) × List (Credential × HotState))
governing_shown g = (option_map (λ c. c.threshold) g.0, (map (member_row g.1) (members_of g.0), hot_outside g.0 g.1))
