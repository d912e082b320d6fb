-- A pass after a prefix of the proposals in order: what it knows then. (Own: how it is kept)
use Rattle.std.specs.Prelude.{◌≡◌, ℕ, ◌==◌, Bool, not, ◌&&◌, List, [], ◌∷◌, ◌++◌, filter, map, nat_lt, if◌then◌else◌}
use Rattle.std.specs.List.{list_all, zip}
use Rattle.maps.specs.Words.{with_fronts, chosen_after}
use Rattle.gov_actions.specs.declared.action.Action.{Action}
use Rattle.gov_actions.specs.declared.action.Proposal.{Proposal}
use Rattle.gov_actions.specs.declared.state.EnactState.{EnactState}
use Rattle.gov_actions.specs.declared.tally.Need.{Need}
use Rattle.gov_actions.specs.declared.tally.Tally.{Tally}
use Rattle.gov_actions.specs.declared.tally.Verdict.{Verdict}
use Rattle.gov_actions.specs.declared.tally.Verdict.TheVariants.{Ratified, Expired, Waiting}
use Rattle.gov_actions.specs.Kinds.{is_delaying, kind_of, priority_of}
use Rattle.gov_model.specs.Enacted.{enacted_after, enacted_from}
use Rattle.gov_model.specs.Need.{need_of}
use Rattle.gov_model.specs.Ratified.{ids_of, roles}
use Rattle.gov_model.specs.Ready.{follows_last, goes_on_after, has_allowed_terms, is_covered, is_ready, meets}
use Rattle.gov_model.specs.Sides.{vote_count}
use Rattle.gov_model.specs.Snapshot.{Snapshot}
use Rattle.snapshots.specs.declared.frozen.Frozen.{Frozen}
use Rattle.snapshots.specs.Frozen.{frozen_copy_of}
use Rattle.tally.specs.declared.cells.TallyCell.{TallyCell}
use Rattle.tally.specs.Cells.{cell_of}
use Rattle.ratify.specs.declared.pass.Pass.{Pass}
use Rattle.ratify.specs.declared.passing.Passing.{Passing}

-- the proposals of front that are ratified
abbrev pub chosen_of : Snapshot → List Proposal → List Proposal
chosen_of s front = chosen_after (is_ready s) [] front

-- the state that they leave
abbrev pub state_after : Snapshot → List Proposal → EnactState
state_after s front = enacted_after s (chosen_of s front)

-- it follows the last action of its purpose; parameters and treasury allow what it asks for
abbrev pub can_be_enacted : ℕ → EnactState → Action → Bool
can_be_enacted epoch now a = follows_last now a && has_allowed_terms epoch now a && is_covered now a

-- the counts of a cell, in the order of a tally
abbrev pub counts_in : TallyCell → List (ℕ × ℕ)
counts_in cell = cell.committee ∷ cell.drep ∷ cell.pool ∷ []

-- each count meets its need
abbrev pub are_met : List Need → List (ℕ × ℕ) → Bool
are_met needs counts = list_all (λ p. meets p.0 p.1) (zip needs counts)

-- the next action is ratified, by the needs of the roles and by their counts
abbrev pub is_next : ℕ → Passing → Action → List Need → List (ℕ × ℕ) → Bool
is_next epoch p a needs counts = p.goes_on && can_be_enacted epoch p.state a && are_met needs counts

-- the verdict on a proposal, by whether it is ready and by its last epoch
abbrev pub verdict_by : Bool → ℕ → ℕ → Verdict
verdict_by ready last epoch = if ready then Ratified else (if nat_lt last epoch then Expired else Waiting)

-- a tally of a proposal
abbrev pub tally_by : Proposal → List (ℕ × ℕ) → List Need → Verdict → Tally
tally_by a counts needs verdict =
    record { id = a.id; kind = kind_of a.action; counts = counts; needs = needs; verdict = verdict }

-- the tally of a proposal after those of front
abbrev pub tally_after : Snapshot → List Proposal × Proposal → Tally
tally_after s (front, a) =
    tally_by a (map (λ r. vote_count r s a) roles) (map (λ r. need_of r s (state_after s front) a.action) roles)
    (verdict_by (is_ready s (chosen_of s front) a) a.expires_after s.epoch)

-- the pass after the proposals of front
abbrev pub passing_after : Snapshot → List Proposal → Passing
passing_after s front = record {
  ratified = ids_of (chosen_of s front);
  goes_on = goes_on_after (chosen_of s front);
  state = state_after s front;
}

-- the pass and its tallies after the proposals of front
abbrev pub pass_after : Snapshot → List Proposal → Pass
pass_after s front = record {
  passing = passing_after s front;
  tallies = map (tally_after s) (with_fronts front);
}

-- a pass with one more proposal enacted
abbrev pub with_enacted : Proposal → Passing → Passing
with_enacted a p = record {
  ratified = p.ratified ++ a.id ∷ [];
  goes_on = not (is_delaying a.action);
  state = enacted_from p.state ((a.id, a.action) ∷ []);
}

-- the pass has looked at none
abbrev pub Begins : Frozen → Passing → Type 0
Begins f p = (s : Snapshot) → f ≡ frozen_copy_of s → p ≡ passing_after s []

-- P holds after each front at which the pass may be, for these counts of the proposal
abbrev pub ForFront : Frozen → TallyCell → Passing → Proposal → (Snapshot → List Proposal → Type 0) → Type 0
ForFront f counts before a P =
    (s : Snapshot) → f ≡ frozen_copy_of s → counts ≡ cell_of s a → (front : List Proposal) → before ≡ passing_after s front → P s front

-- the pass has looked at one more proposal, by its counts
abbrev pub LooksAtOne : Frozen → TallyCell → Passing → Proposal → Passing → Type 0
LooksAtOne f counts before a after = ForFront f counts before a (λ s front. after ≡ passing_after s (front ++ a ∷ []))

-- and this is the tally of the proposal
abbrev pub TellsOne : Frozen → TallyCell → Passing → Proposal → Tally → Type 0
TellsOne f counts before a tally = ForFront f counts before a (λ s front. tally ≡ tally_after s (front, a))

-- the proposals of a priority, in order of submission
abbrev pub of_priority : ℕ → List Proposal → List Proposal
of_priority n ps = filter (λ p. priority_of p.action == n) ps

-- a pass that is after some front is then after front and these
abbrev pub Follows : Snapshot → Pass → List Proposal → Pass → Type 0
Follows s before more after = (front : List Proposal) → before ≡ pass_after s front → after ≡ pass_after s (front ++ more)

-- P holds of each snapshot whose copy is this frozen epoch and whose proposals have these cells
abbrev pub ForTallied : Frozen → List TallyCell → (Snapshot → Type 0) → Type 0
ForTallied f cells P = (s : Snapshot) → f ≡ frozen_copy_of s → cells ≡ map (cell_of s) s.proposals → P s

-- a pass has looked at these, by the cells of all proposals
abbrev pub LooksAt : Frozen → List TallyCell → Pass → List Proposal → Pass → Type 0
LooksAt f cells before more after = ForTallied f cells (λ s. Follows s before more after)

-- a pass has looked at a proposal, by its cell
abbrev pub AddsOne : Frozen → TallyCell → Pass → Proposal → Pass → Type 0
AddsOne f cell before a after =
    (s : Snapshot) → f ≡ frozen_copy_of s → cell ≡ cell_of s a → Follows s before (a ∷ []) after
