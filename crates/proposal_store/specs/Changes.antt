-- Changes of the proposals, each at its id.
use Rattle.std.specs.Prelude.{List, map, if◌then◌else◌}
use Rattle.gov_ids.specs.declared.ActionId.{ActionId}
use Rattle.gov_ids.specs.declared.Voter.{Voter}
use Rattle.gov_ids.specs.Orders.{action_id_cmp}
use Rattle.gov_ids.specs.Same.{same_action}
use Rattle.gov_actions.specs.declared.action.Proposal.{Proposal}
use Rattle.gov_model.specs.Proposals.{without_vote}
use Rattle.maps.specs.Maps.{has_member}

-- each proposal by g
abbrev pub each : (Proposal → Proposal) → List (ActionId × Proposal) → List (ActionId × Proposal)
each g es = map (λ (e : ActionId × Proposal). (e.0, g e.1)) es

-- the proposal of an id by f
abbrev pub changing : ActionId → (Proposal → Proposal) → Proposal → Proposal
changing id f p = if same_action p.id id then f p else p

-- a proposal without the vote of a voter, if its id is among these
abbrev pub dropping : Voter → List ActionId → Proposal → Proposal
dropping v ids p = if has_member action_id_cmp ids p.id then without_vote v p else p
