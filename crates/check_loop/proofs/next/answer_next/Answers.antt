-- The reader and the source are had back.
use Rattle.std.proofs.Common.{rules}
use Rattle.check_loop.proofs.Moments.{back}
use Rattle.check_loop.proofs.next.answer_next.Goals as goal

pub returns : goal.returns
returns g c =
    back g.S.Source.left g.S.Source.faults c.answer_ended.new.ended.lines.now _ c.answer_ended.new.ended.source.now _ c.answer_ended.ensures.next c.answer_ended.ensures.same_reader c.answer_ended.ensures.same_source (search rules) (search rules)
