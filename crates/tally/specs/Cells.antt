-- The counts of a proposal by role, in a cell.
-- (CIP-1694, Ratification; what RATIFY counts. The representation is own)
use Rattle.std.specs.Prelude.{◌≡◌, List, map}
use Rattle.gov_actions.specs.declared.action.Proposal.{Proposal}
use Rattle.gov_actions.specs.declared.tally.Role.TheVariants as role
use Rattle.gov_model.specs.Sides.{vote_count}
use Rattle.gov_model.specs.Snapshot.{Snapshot}
use Rattle.drep_pulser.specs.Count.{Ended}
use Rattle.snapshots.specs.declared.frozen.Frozen.{Frozen}
use Rattle.tally.specs.declared.cells.TallyCell.{TallyCell}
use Rattle.tally.specs.Counted.{ForSnapshot}

-- what each role counts on a proposal
abbrev pub cell_of : Snapshot → Proposal → TallyCell
cell_of s a = record {
  committee = vote_count role.Committee s a;
  drep = vote_count role.Drep s a;
  pool = vote_count role.Pool s a;
}

-- these are the cells of the frozen proposals, in order of submission
abbrev pub AreCells : Frozen → Ended → List TallyCell → Type 0
AreCells f c cells = ForSnapshot f c (λ s. cells ≡ map (cell_of s) s.proposals)
