-- The frozen proposals are those that the rows show.
use Rattle.std.proofs.Common.{Some, subst, sym}
use Rattle.proposal_rows.proofs.FrozenTells.{TheVoted, found_only, none_voted}
use Rattle.proposal_rows.proofs.frozen.frozen_of.Goals as goal

pub returns-in-Some : goal.returns-in-Some
returns-in-Some c =
    let voted = c.as_slice.result.now in
    found_only c.args.live.now c.args.rows.now voted
    (subst (λ vs. TheVoted c.args.live.now c.args.rows.now (Some vs)) (sym c.as_slice.ensures.value) (rw c.in-Some.is at c.in_ok-voted.ensures))
    (λ v. v.items) c.frozen_of_live.result c.frozen_of_live.ensures.some c.frozen_of_live.ensures.none

pub returns-in-None : goal.returns-in-None
returns-in-None c = none_voted c.args.live.now c.args.rows.now (rw c.in-None.is at c.in_ok-voted.ensures)
