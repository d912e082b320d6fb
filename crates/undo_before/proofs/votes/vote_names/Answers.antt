use Rattle.std.proofs.Common.{◌+◌, List, ap, map, sym, subst, take, ◌∙◌}
use Rattle.tx_records.specs.declared.tx.VoteRecord.{VoteRecord}
use Rattle.undo_before.proofs.Voting.{AreVoteNames, VoteNames, all_named, first_named, next_named}
use Rattle.undo_before.proofs.votes.vote_names.Goals as goal

pub loop-drep-init : goal.loop-drep-init
loop-drep-init c =
    first_named c.args.tx.now c.args.left.now c.args.store.now c.in_ok-all.all.items
    (c.in_ok-all.ensures ∙ ap (λ (vs : List VoteRecord). map (λ (x : VoteRecord). (x.action, x.voter)) vs) c.as_slice.ensures)

pub loop-drep-preserved : goal.loop-drep-preserved
loop-drep-preserved c =
    let tx = c.args.tx.now in
    let left = c.args.left.now in
    let ps = c.args.store.now in
    let i = c.loop-drep.drep-index in
    subst (λ (ns : VoteNames). AreVoteNames tx (take (i + 1) left) ps ns) (sym c.in_ok-add_votes.ensures)
    (next_named tx left ps c.loop-drep.all.items i _ c.voted_on.result.now c.loop-drep-test.true c.voted_on.ensures.voted c.loop-drep.invariant)

pub returns : goal.returns
returns c = all_named c.args.tx.now c.args.left.now c.args.store.now c.loop-drep.all.items c.loop-drep.drep-index c.loop-drep-test.false c.loop-drep.invariant
