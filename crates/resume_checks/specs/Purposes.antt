-- The purposes of proposals by id, and what an action may follow among them. (Own)
use Rattle.std.specs.Prelude.{Bool, ◌||◌, if◌then◌else◌, List, Option}
use Rattle.maps.specs.Maps.{has_key, value_at, with_value}
use Rattle.maps.specs.Words.{holds, none_or, some_and}
use Rattle.gov_ids.specs.declared.ActionId.{ActionId}
use Rattle.gov_ids.specs.Orders.{action_id_cmp}
use Rattle.gov_actions.specs.declared.action.Action.{Action}
use Rattle.gov_actions.specs.declared.action.Proposal.{Proposal}
use Rattle.gov_actions.specs.declared.action.Purpose.{Purpose}
use Rattle.gov_actions.specs.declared.state.LastIds.{LastIds}
use Rattle.gov_actions.specs.Kinds.{previous_of, purpose_of, same_purpose}
use Rattle.gov_model.specs.Lineage.{is_last_enacted}

-- with the purpose of a proposal, unless there is one at its id
abbrev pub with_purpose : Proposal → List (ActionId × Option Purpose) → List (ActionId × Option Purpose)
with_purpose p es = if has_key action_id_cmp es p.id then es else with_value action_id_cmp p.id (purpose_of p.action) es

-- the id has this purpose
abbrev pub has_purpose : List (ActionId × Option Purpose) → Purpose → ActionId → Bool
has_purpose es purpose id = some_and (λ o. holds same_purpose o purpose) (value_at action_id_cmp es id)

-- an action with a purpose names its last enacted action or one of these of the purpose
abbrev pub follows_among : List (ActionId × Option Purpose) → LastIds → Action → Bool
follows_among es last a =
    none_or (λ purpose. is_last_enacted last purpose (previous_of a) || some_and (has_purpose es purpose) (previous_of a)) (purpose_of a)
