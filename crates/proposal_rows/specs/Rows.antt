-- The rows that show proposals with their actions. (Own)
use Rattle.std.specs.Prelude.{◌≡◌, List, map}
use Rattle.gov_ids.specs.declared.ActionId.{ActionId}
use Rattle.gov_ids.specs.declared.Voter.{Voter}
use Rattle.gov_actions.specs.declared.action.Action.{Action}
use Rattle.gov_actions.specs.declared.action.Proposal.{Proposal}
use Rattle.gov_actions.specs.declared.action.Vote.{Vote}
use Rattle.gov_actions.specs.Kinds.{kind_of, previous_of}
use Rattle.state_kinds.specs.declared.proposals.ProposalRow.{ProposalRow}
use Rattle.checkpoint_lists.specs.Shown.{proposal_row}

-- what the line of a proposal says, and the votes behind it
abbrev pub VotedRow : Type 0
VotedRow = ProposalRow × List (ActionId × (Voter × Vote))

-- the action of a proposal, with its id
abbrev pub action_row : Proposal → ActionId × Action
action_row p = (p.id, p.action)

-- a proposal without its action, and that
abbrev pub whole_row : Proposal → VotedRow × (ActionId × Action)
whole_row p = (proposal_row p, action_row p)

-- all proposals without their actions, and then those
abbrev pub all_rows : List Proposal → List VotedRow × List (ActionId × Action)
all_rows ps = (map proposal_row ps, map action_row ps)

-- an action has the id, the type and the previous action that the line of a proposal says
pub record IsActionOf (row : ProposalRow) (a : ActionId × Action) : Type 0 where
  pub id : a.0 ≡ row.id
  pub kind : kind_of a.1 ≡ row.kind
  pub previous : previous_of a.1 ≡ row.previous

-- the id of a frozen proposal, and the votes on it, each with the id
abbrev pub frozen_row : ActionId × List (Voter × Vote) → ActionId × List (ActionId × (Voter × Vote))
frozen_row v = (v.0, map (λ (c : Voter × Vote). (v.0, c)) v.1)
