-- The votes after DReps have left.
-- (GOVCERT of the formal specification; that their votes leave at once is own)
use Rattle.std.specs.Prelude.{Bool, false, not, List}
use Rattle.gov_actions.specs.declared.action.Proposal.{Proposal}
use Rattle.gov_actions.specs.declared.action.Vote.{Vote}
use Rattle.gov_ids.specs.declared.Credential.{Credential}
use Rattle.gov_ids.specs.declared.Voter.{Voter}
use Rattle.gov_ids.specs.declared.Voter.TheVariants as voter
use Rattle.gov_ids.specs.Orders.{credential_cmp}
use Rattle.maps.specs.Maps.{entries_where, has_member}

-- whether the voter is one of these DReps
abbrev pub is_drep_among : List Credential → Voter → Bool
is_drep_among dreps (voter.Drep c) = has_member credential_cmp dreps c
is_drep_among dreps _ = false

-- the votes of all other voters
abbrev pub without_those_of : List Credential → List (Voter × Vote) → List (Voter × Vote)
without_those_of dreps votes = entries_where (λ v x. not (is_drep_among dreps v)) votes

-- a proposal without the votes of these DReps
abbrev pub without_votes_of : List Credential → Proposal → Proposal
without_votes_of dreps p = record p { votes = without_those_of dreps p.votes }
