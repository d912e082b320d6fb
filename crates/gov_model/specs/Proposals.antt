-- Proposals in order of submission.
-- (CIP-1694, Governance actions: Content; GOV of the formal specification)
use Rattle.std.specs.Prelude.{ℕ, not, Bool, ◌&&◌, List, Option, filter, find, map, sum_by, if◌then◌else◌}
use Rattle.maps.specs.Maps.{with_value, without_key}
use Rattle.maps.specs.Words.{holds, same_option}
use Rattle.book_records.specs.of_gov_ids.declared.ActionId.{ActionId}
use Rattle.book_records.specs.of_gov_ids.declared.Voter.{Voter}
use Rattle.book_records.specs.of_gov_ids.Orders.{voter_cmp}
use Rattle.book_records.specs.of_gov_ids.Same.{same_action}
use Rattle.gov_actions.specs.declared.action.Proposal.{Proposal}
use Rattle.gov_actions.specs.declared.action.Purpose.{Purpose}
use Rattle.gov_actions.specs.declared.action.Vote.{Vote}
use Rattle.gov_actions.specs.Kinds.{purpose_of, previous_of, same_purpose}
use Rattle.gov_model.specs.Ratified.{ids_of, is_one_of}

-- the proposal of an id
abbrev pub proposal_of : ActionId → List Proposal → Option Proposal
proposal_of id ps = find (λ (p : Proposal). same_action p.id id) ps

-- the proposal has this purpose and this previous action
abbrev pub is_child : Purpose → Option ActionId → Proposal → Bool
is_child purpose previous p =
    holds same_purpose (purpose_of p.action) purpose && same_option same_action (previous_of p.action) previous

-- the ids of the proposals with this purpose and this previous action
abbrev pub children_of : Purpose → Option ActionId → List Proposal → List ActionId
children_of purpose previous ps = ids_of (filter (is_child purpose previous) ps)

-- the deposits of proposals
abbrev pub deposits_of : List Proposal → ℕ
deposits_of ps = sum_by (λ (p : Proposal). p.deposit) ps

-- those whose ids are among these
abbrev pub those_of : List ActionId → List Proposal → List Proposal
those_of ids ps = filter (is_one_of ids) ps

-- those whose ids are not among these
abbrev pub others_than : List ActionId → List Proposal → List Proposal
others_than ids ps = filter (λ p. not (is_one_of ids p)) ps

-- a proposal with the vote of a voter, which replaces an earlier one
abbrev pub with_vote : Voter → Vote → Proposal → Proposal
with_vote v vote p = record p { votes = with_value voter_cmp v vote p.votes }

-- a proposal without the vote of a voter
abbrev pub without_vote : Voter → Proposal → Proposal
without_vote v p = record p { votes = without_key voter_cmp v p.votes }

-- proposals with f's change at an id
abbrev pub with_change : ActionId → (Proposal → Proposal) → List Proposal → List Proposal
with_change id f ps = map (λ (p : Proposal). if same_action p.id id then f p else p) ps
