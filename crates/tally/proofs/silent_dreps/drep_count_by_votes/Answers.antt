use Rattle.std.proofs.Common.{List, subst, sym, ◌∙◌, arith}
use Rattle.gov_ids.specs.declared.Voter.{Voter}
use Rattle.gov_actions.specs.declared.action.Vote.{Vote}
use Rattle.tally.specs.Adding.{with_side}
use Rattle.tally.specs.Silent.{silent_dreps}
use Rattle.tally.proofs.DrepSides.{dreps_counted}
use Rattle.tally.proofs.SilentDreps.{dreps_cast, ordered_dreps, room_for_dreps}
use Rattle.tally.proofs.Votes.{IsSoFar, all_voted, begun, next_votable, next_voted, part_of, room_in}
use Rattle.tally.proofs.silent_dreps.drep_count_by_votes.Goals as goal

pub loop-voter-init : goal.loop-voter-init
loop-voter-init c =
    let f = c.args.f.now in
    let counts = c.args.c.now in
    let votes = c.args.a.now.votes in
    subst (λ (left : List (Voter × Vote)). IsSoFar (silent_dreps f counts) votes left (0, c.args.silent)) (sym c.as_slice-voter-items.ensures)
    (begun (silent_dreps f counts) votes (0, c.args.silent) c.requires.silent.count (ordered_dreps f counts f.dreps c.requires.silent.in_order) c.requires.in_order)

pub with_vote-count-requires : goal.with_vote-count-requires
with_vote-count-requires c =
    next_votable (silent_dreps c.args.f.now c.args.c.now) c.args.a.now.votes c.as_slice-voter-items.result.now c.loop-voter.voter-index c.loop-voter.count c.silent_drep.result
    c.loop-voter.invariant c.loop-voter-test.true c.silent_drep.ensures (omega (arith, room_for_dreps c.args.f.now c.args.c.now, c.requires.fits))

pub loop-voter-preserved : goal.loop-voter-preserved
loop-voter-preserved c =
    next_voted (silent_dreps c.args.f.now c.args.c.now) c.args.a.now.votes c.as_slice-voter-items.result.now c.loop-voter.voter-index c.loop-voter.count c.silent_drep.result
    c.with_vote-count.result c.loop-voter.invariant c.loop-voter-test.true c.silent_drep.ensures c.with_vote-count.ensures

pub with_side-requires-clause-part : goal.with_side-requires-clause-part
with_side-requires-clause-part c = part_of _ _ _ c.loop-voter.count c.loop-voter.invariant

pub with_side-requires-clause-fits : goal.with_side-requires-clause-fits
with_side-requires-clause-fits c =
    omega (arith, room_in _ _ _ c.loop-voter.count c.loop-voter.invariant, room_for_dreps c.args.f.now c.args.c.now, c.stake.ensures.sum, c.requires.fits)

pub returns : goal.returns
returns c = λ s e is.
    let f = c.args.f.now in
    let counts = c.args.c.now in
    let a = c.args.a.now in
    let all = all_voted (silent_dreps f counts) a.votes c.as_slice-voter-items.result.now c.loop-voter.voter-index c.loop-voter.count c.loop-voter.invariant c.loop-voter-test.false ∙ dreps_cast f counts a in
    c.with_side.ensures ∙ (λ i. with_side (all i) (c.stake.ensures.sum i) (c.no_confidence_side.ensures i)) ∙ dreps_counted f counts a s e is
