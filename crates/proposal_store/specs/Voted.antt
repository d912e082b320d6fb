-- The proposals on which each DRep has a vote, as notes beside the proposals. (Own)
use Rattle.std.specs.Prelude.{◌≡◌, Bool, List, [], unwrap_or}
use Rattle.std.specs.List.{IsDistinct}
use Rattle.std.specs.Ordering.{eq_by_cmp}
use Rattle.gov_actions.specs.declared.action.Proposal.{Proposal}
use Rattle.gov_ids.specs.declared.ActionId.{ActionId}
use Rattle.gov_ids.specs.declared.Credential.{Credential}
use Rattle.gov_ids.specs.declared.Voter.{Voter}
use Rattle.gov_ids.specs.declared.Voter.TheVariants.{Drep}
use Rattle.gov_ids.specs.Orders.{action_id_cmp, credential_cmp, voter_cmp}
use Rattle.gov_ids.specs.Same.{same_action}
use Rattle.gov_model.specs.Proposals.{proposal_of}
use Rattle.maps.specs.Maps.{has_key, has_member, value_at}
use Rattle.maps.specs.Words.{some_and}

-- whether the voter is this DRep
abbrev pub is_drep : Voter → Credential → Bool
is_drep v c = eq_by_cmp voter_cmp v (Drep c)

-- whether the DRep has a vote on the proposal
abbrev pub has_vote : Credential → Proposal → Bool
has_vote c p = has_key voter_cmp p.votes (Drep c)

-- whether the DRep has a vote on the live proposal of an id
abbrev pub is_voted_on : Credential → ActionId → List Proposal → Bool
is_voted_on c id ps = some_and (has_vote c) (proposal_of id ps)

-- the proposals in the notes of a DRep
abbrev pub noted_of : List (Credential × List ActionId) → Credential → List ActionId
noted_of notes c = unwrap_or (value_at credential_cmp notes c) []

-- whether the notes of a DRep have a proposal
abbrev pub is_noted : List (Credential × List ActionId) → Credential → ActionId → Bool
is_noted notes c id = has_member action_id_cmp (noted_of notes c) id

-- the notes of each DRep name each proposal once
abbrev pub AreOnce : List (Credential × List ActionId) → Type 0
AreOnce notes = (c : Credential) → IsDistinct same_action (noted_of notes c)

-- the notes of a DRep are the live proposals on which it has a vote, each once
pub record AreNoted (notes : List (Credential × List ActionId)) (ps : List Proposal) : Type 0 where
  pub noted : (c : Credential) (id : ActionId) → is_noted notes c id ≡ is_voted_on c id ps
  pub once : AreOnce notes
