-- The votes are those that the rows show.
use Rattle.std.proofs.Common.{Some, ap, subst, sym, ◌∙◌}
use Rattle.proposal_rows.proofs.VoteTells.{TheVotes, no_votes, votes_only}
use Rattle.proposal_rows.proofs.votes.votes_of.Goals as goal

pub returns-then-not-are_on : goal.returns-then-not-are_on
returns-then-not-are_on c = no_votes c.args.id.now c.args.rows.now (sym c.are_on.ensures ∙ c.if-not-are_on.true)

pub returns : goal.returns
returns c =
    subst (TheVotes c.args.id.now c.args.rows.now) (ap Some (sym (c.from_vec.ensures ∙ c.in_ok-votes.ensures)))
    (votes_only c.args.id.now c.args.rows.now (sym c.are_on.ensures ∙ c.if-not-are_on.false))
