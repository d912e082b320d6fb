-- The proposal is the one that the row shows with its votes and its action.
use Rattle.std.proofs.Common.{Some, None, subst, sym}
use Rattle.gov_actions.specs.declared.action.Action.{Action}
use Rattle.proposal_rows.proofs.LiveTells.{TheProposal, other_votes, proposal_only}
use Rattle.proposal_rows.proofs.VoteTells.{TheVotes}
use Rattle.proposal_rows.proofs.live.proposal_of.Goals as goal

pub returns-in_default : goal.returns-in_default
returns-in_default c =
    other_votes c.args.row.now.0 c.args.row.now.1 c.args.action.now
    (subst (λ rs. TheVotes c.args.row.now.0.id rs None) c.as_slice.ensures (rw c.in_default.is at c.in_ok-votes.ensures))

pub returns : goal.returns
returns c =
    let row = c.args.row.now in
    let votes = c.in-Some.votes in
    subst
    (λ (a : Action). TheProposal (row, c.args.action.now)
    (Some (record { id = row.0.id; action = a; deposit = row.0.deposit; account = row.0.account; expires_after = row.0.expires_after; votes = votes })))
    (sym c.in_ok-copied.ensures)
    (proposal_only row.0 row.1 c.args.action.now (c.is_action_of.ensures.0 c.if-not-is_action_of.false) votes
    (subst (λ rs. TheVotes row.0.id rs (Some votes)) c.as_slice.ensures (rw c.in-Some.is at c.in_ok-votes.ensures)))
