use Rattle.std.proofs.Common.{◌∙◌}
use Rattle.gov_ids.specs.Orders.{credential_cmp}
use Rattle.undo_before.proofs.Maps.{all_old, next_old}
use Rattle.undo_before.proofs.old.old_hot.Goals as goal

pub loop-c-preserved : goal.loop-c-preserved
loop-c-preserved c =
    next_old credential_cmp c.args.book.now c.args.names.now c.loop-c.c-index _ c.loop-c.olds.items c.push.new.self.items c.get.result c.loop-c-test.true c.get.ensures.value c.in_ok-push.ensures.items c.loop-c.invariant

pub returns : goal.returns
returns c = c.from_vec.ensures ∙ all_old credential_cmp c.args.book.now c.args.names.now c.loop-c.c-index c.loop-c.olds.items c.loop-c-test.false c.loop-c.invariant
