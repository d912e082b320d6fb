-- The ranking and counts of a frozen epoch and its snapshot; the lines of some proposals. (Own)
use Rattle.std.specs.Prelude.{ℕ, ◌≡◌, ◌==◌, List, filter, flat_map, map}
use Rattle.gov_actions.specs.declared.action.Proposal.{Proposal}
use Rattle.gov_actions.specs.Kinds.{priority_of}
use Rattle.gov_ids.specs.declared.Credential.{Credential}
use Rattle.gov_model.specs.Snapshot.{Snapshot}
use Rattle.fewest_votes.specs.Ranked.{ranked_of}
use Rattle.shortfall_model.specs.ShortLines.{short_lines}
use Rattle.shortfall_model.specs.Silent.{short_of}
use Rattle.snapshots.specs.declared.frozen.Frozen.{Frozen}
use Rattle.snapshots.specs.Frozen.{frozen_copy_of}
use Rattle.tally.specs.Cells.{cell_of}
use Rattle.tally.specs.declared.cells.TallyCell.{TallyCell}
use Rattle.text_model.specs.Words.{Text}

-- P holds of each snapshot with this frozen copy, this ranking and these counts of proposals
abbrev pub ForRanked : Frozen → List (Credential × ℕ) → List TallyCell → (Snapshot → Type 0) → Type 0
ForRanked f ranking cells P = (s : Snapshot) → f ≡ frozen_copy_of s → ranking ≡ ranked_of s → cells ≡ map (cell_of s) s.proposals → P s

-- the proposals of a priority
abbrev pub of_priority : ℕ → List Proposal → List Proposal
of_priority n ps = filter (λ p. priority_of p.action == n) ps

-- the lines of these proposals
abbrev pub lines_of : Snapshot → List Proposal → List (List Text)
lines_of s ps = flat_map (λ (a : Proposal). short_lines a.id (short_of s a)) ps
