-- The frozen proposals, told by their ids and votes. (Own)
use Rattle.std.specs.Prelude.{◌≡◌, if◌then◌else◌, List, [], ◌∷◌, map}
use Rattle.gov_ids.specs.declared.ActionId.{ActionId}
use Rattle.gov_ids.specs.declared.Voter.{Voter}
use Rattle.gov_ids.specs.Same.{same_action}
use Rattle.gov_actions.specs.declared.action.Proposal.{Proposal}
use Rattle.gov_actions.specs.declared.action.Vote.{Vote}
use Rattle.checkpoint_model.specs.Resumable.{live_of, unvoted}

-- the id and the votes of a proposal
abbrev pub voted_of : Proposal → ActionId × List (Voter × Vote)
voted_of p = (p.id, p.votes)

-- proposals with these ids and votes are live and in the same order, except for their votes
pub record IsFrozenOf (live : List Proposal) (voted : List (ActionId × List (Voter × Vote))) (ps : List Proposal) : Type 0 where
  pub told : map voted_of ps ≡ voted
  pub kept : map unvoted (live_of ps live) ≡ map unvoted ps

-- a proposal with other votes
abbrev pub with_votes : Proposal → List (Voter × Vote) → Proposal
with_votes p votes = record p { votes = votes }

-- the live proposals whose ids come next among these, with their votes
abbrev pub matched : List Proposal → List (ActionId × List (Voter × Vote)) → List Proposal
matched [] vs = []
matched (p ∷ ps) [] = []
matched (p ∷ ps) (v ∷ vs) = if same_action p.id v.0 then with_votes p v.1 ∷ matched ps vs else matched ps (v ∷ vs)
