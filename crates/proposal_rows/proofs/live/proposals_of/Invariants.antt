use Rattle.proposal_rows.proofs.LiveTells.{IsFound}
use Rattle.proposal_rows.proofs.live.proposals_of.Given as goal

-- the proposals so far, and the rows and actions that are left
abbrev pub invariant-loop-row : goal.invariant-loop-row
invariant-loop-row l = IsFound l.rows l.actions l.proposals.items l.row-iterator.a.rest.now l.row-iterator.b.rest.now
