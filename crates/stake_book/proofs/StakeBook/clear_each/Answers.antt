use Rattle.std.proofs.Common.{◌∙◌}
use Rattle.stake_book.proofs.Ended.{one_ended}
use Rattle.stake_book.proofs.StakeBook.clear_each.Goals as goal

pub loop-c-preserved : goal.loop-c-preserved
loop-c-preserved c = record {
  outputs = c.in_ok-clear_at.ensures.outputs ∙ c.loop-c.invariant.outputs;
  live = one_ended c.args.leaving.now c.args.delegating.now c.loop-c.c-index _ _ _ c.loop-c-test.true c.in_ok-clear_at.ensures.live ∙ c.loop-c.invariant.live;
  frozen = c.in_ok-clear_at.ensures.frozen ∙ c.loop-c.invariant.frozen;
}
