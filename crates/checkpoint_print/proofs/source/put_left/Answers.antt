use Rattle.std.proofs.Common.{sym}
use Rattle.report.proofs.Handed.{put_both, put_front, nothing}
use Rattle.checkpoint_print.proofs.source.put_left.Goals as goal

pub returns-in_err-put_one : goal.returns-in_err-put_one
returns-in_err-put_one g c =
    c.loop-line.invariant (g.T.LineTaker.taken c.put_one.new.to) (g.T.LineTaker.faults c.put_one.new.to) c.from_residual.result
    (put_front (g.S.LineSource.left c.next_line.new.self) c.in-Some.ensures c.in_err-put_one.ensures c.from_residual.ensures.1)

pub loop-line-preserved : goal.loop-line-preserved
loop-line-preserved g c = λ t f r later. c.loop-line.invariant t f r (put_both c.in-Some.ensures c.in_ok-put_one.ensures later)

pub returns : goal.returns
returns g c =
    c.loop-line.invariant (g.T.LineTaker.taken c.loop-line.to) (g.T.LineTaker.faults c.loop-line.to) _ (nothing (sym c.in_default.ensures))
