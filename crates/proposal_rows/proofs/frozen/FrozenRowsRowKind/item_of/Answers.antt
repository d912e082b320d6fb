-- The votes are those of the row, and all are on the proposal.
use Rattle.std.proofs.Common.{Some, None, subst}
use Rattle.proposal_rows.proofs.FrozenTells.{no_voted, voted_only}
use Rattle.proposal_rows.proofs.VoteTells.{TheVotes}
use Rattle.proposal_rows.proofs.frozen.FrozenRowsRowKind.item_of.Goals as goal

pub returns-in-Some : goal.returns-in-Some
returns-in-Some c =
    voted_only c.args.shown.now c.in-Some.votes
    (subst (λ rs. TheVotes c.args.shown.now.0 rs (Some c.in-Some.votes)) c.as_slice.ensures (rw c.in-Some.is at c.in_ok-votes.ensures))

pub returns-in-None : goal.returns-in-None
returns-in-None c =
    no_voted c.args.shown.now (subst (λ rs. TheVotes c.args.shown.now.0 rs None) c.as_slice.ensures (rw c.in-None.is at c.in_ok-votes.ensures))
