use Rattle.std.proofs.Common.{arith}
use Rattle.undo_before.proofs.Spending.{made_step}
use Rattle.undo_before.proofs.outputs.add_made.Goals as goal

pub loop-index-preserved : goal.loop-index-preserved
loop-index-preserved c =
    made_step c.args.tx.now.id c.args.tx.now.outputs c.loop-index.index c.loop-index.olds.items c.push.new.self.items _ (omega (arith, c.len-index-end.ensures)) c.in_ok-push.ensures.items c.loop-index.invariant
