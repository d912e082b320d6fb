use Rattle.report.proofs.Puts.{put_next, put_not, put_ended, put_failed}
use Rattle.explain_print.proofs.lined.put_each.Goals as goal

pub returns-in_err-put_one : goal.returns-in_err-put_one
returns-in_err-put_one g c =
    c.loop-item.invariant (g.T.LineTaker.taken c.put_one.new.to) (g.T.LineTaker.faults c.put_one.new.to) c.from_residual.result
    (put_failed g.T.LineTaker.with_line g.T.LineTaker.IsPart c.args.line (g.T.LineTaker.taken c.loop-item.to) (g.T.LineTaker.taken c.put_one.new.to) _ (g.T.LineTaker.faults c.loop-item.to) (g.T.LineTaker.faults c.put_one.new.to)
    c.in_err-put_one.field-0.0 c.from_residual.result c.from_residual.ensures.1
    (put_not g.T.LineTaker.with_line g.T.LineTaker.IsPart c.args.line g.P.Lined.words c.args.items.now c.loop-item.item-index c.item-item.result c.loop-item-test.true c.item-item.is
    (g.T.LineTaker.taken c.loop-item.to) (g.T.LineTaker.taken c.put_one.new.to) (g.T.LineTaker.faults c.loop-item.to) (g.T.LineTaker.faults c.put_one.new.to) c.in_err-put_one.field-0.0 c.in_err-put_one.ensures))

pub loop-item-preserved : goal.loop-item-preserved
loop-item-preserved g c = λ t f r later.
    c.loop-item.invariant t f r
    (put_next g.T.LineTaker.with_line g.T.LineTaker.IsPart c.args.line g.P.Lined.words c.args.items.now c.loop-item.item-index c.item-item.result c.loop-item-test.true c.item-item.is
    (g.T.LineTaker.taken c.loop-item.to) (g.T.LineTaker.taken c.put_one.new.to) t (g.T.LineTaker.faults c.loop-item.to) (g.T.LineTaker.faults c.put_one.new.to) f r c.in_ok-put_one.ensures later)

pub returns : goal.returns
returns g c =
    c.loop-item.invariant (g.T.LineTaker.taken c.loop-item.to) (g.T.LineTaker.faults c.loop-item.to) _
    (put_ended g.T.LineTaker.with_line g.T.LineTaker.IsPart c.args.line g.P.Lined.words c.args.items.now c.loop-item.item-index c.loop-item-test.false (g.T.LineTaker.taken c.loop-item.to) (g.T.LineTaker.faults c.loop-item.to))
