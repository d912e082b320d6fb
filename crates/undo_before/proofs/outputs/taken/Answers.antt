use Rattle.gov_ids.specs.Orders.{outref_cmp}
use Rattle.undo_before.proofs.Maps.{next_old}
use Rattle.undo_before.proofs.outputs.taken.Goals as goal

pub loop-at-preserved : goal.loop-at-preserved
loop-at-preserved c =
    next_old outref_cmp c.args.outputs.now.outputs c.args.refs.now c.loop-at.at-index _ c.loop-at.olds.items c.push.new.self.items _ c.loop-at-test.true c.in_ok-output_at.ensures c.in_ok-push.ensures.items c.loop-at.invariant
