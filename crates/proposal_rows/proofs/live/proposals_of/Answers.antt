-- One pair after another.
use Rattle.std.proofs.Common.{subst, sym}
use Rattle.std.proofs.lemmas.Slice.Zip.{Zip-more, either_empty_from_Zip}
use Rattle.proposal_rows.proofs.LiveTells.{IsFound, all_shown, none_next, one_more}
use Rattle.proposal_rows.proofs.live.proposals_of.Goals as goal

pub loop-row-preserved : goal.loop-row-preserved
loop-row-preserved c =
    let left = c.loop-row.row-iterator in
    let after = c.next.new.self in
    let more = Zip-more left after c.next.result (c.in-Some.row, c.in-Some.action) c.in-Some.is c.next.ensures.steps in
    subst (λ ps. IsFound c.args.rows.now c.args.actions.now ps after.a.rest.now after.b.rest.now) (sym c.in_ok-push-in-Some-2.ensures.items)
    (one_more c.args.rows.now c.args.actions.now c.loop-row.proposals.items left.a.rest.now after.a.rest.now left.b.rest.now after.b.rest.now
    c.in-Some.row.now c.in-Some.action.now more c.loop-row.invariant c.in-Some-2.proposal (rw c.in-Some-2.is at c.in_ok-proposal.ensures))

pub returns-in-None-2 : goal.returns-in-None-2
returns-in-None-2 c =
    let left = c.loop-row.row-iterator in
    let after = c.next.new.self in
    let more = Zip-more left after c.next.result (c.in-Some.row, c.in-Some.action) c.in-Some.is c.next.ensures.steps in
    none_next c.args.rows.now c.args.actions.now c.loop-row.proposals.items left.a.rest.now after.a.rest.now left.b.rest.now after.b.rest.now
    c.in-Some.row.now c.in-Some.action.now more c.loop-row.invariant (sym c.if-rows-actions.false) (rw c.in-None-2.is at c.in_ok-proposal.ensures)

pub returns : goal.returns
returns c =
    let left = c.loop-row.row-iterator in
    all_shown c.args.rows.now c.args.actions.now (sym c.if-rows-actions.false) c.loop-row.proposals.items left.a.rest.now left.b.rest.now
    (either_empty_from_Zip left c.next.new.self c.next.result c.in-None.is c.next.ensures.steps) c.loop-row.invariant
