use Rattle.std.proofs.Common.{flat_map, ◌+◌, drop, ap, sym}
use Rattle.report.proofs.Handed.{put_both, put_front, nothing, of_first, from_place, past_places}
use Rattle.item_lines.proofs.items.put_items.Goals as goal

pub returns-in_err-put_item : goal.returns-in_err-put_item
returns-in_err-put_item g c =
    c.loop-item.invariant (g.T.LineTaker.taken c.put_item.new.to) (g.T.LineTaker.faults c.put_item.new.to) c.from_residual.result
    (put_front _ (of_first (g.P.ItemLines.lines c.args.printer.now) (drop c.loop-item.item-index c.args.items.now) (drop (c.loop-item.item-index + 1) c.args.items.now) c.item-item.result
    (from_place c.args.items.now c.loop-item.item-index c.item-item.result c.loop-item-test.true c.item-item.is)) c.in_err-put_item.ensures c.from_residual.ensures.1)

pub loop-item-preserved : goal.loop-item-preserved
loop-item-preserved g c = λ t f r later.
    c.loop-item.invariant t f r
    (put_both (of_first (g.P.ItemLines.lines c.args.printer.now) (drop c.loop-item.item-index c.args.items.now) (drop (c.loop-item.item-index + 1) c.args.items.now) c.item-item.result
    (from_place c.args.items.now c.loop-item.item-index c.item-item.result c.loop-item-test.true c.item-item.is)) c.in_ok-put_item.ensures later)

pub returns : goal.returns
returns g c =
    c.loop-item.invariant (g.T.LineTaker.taken c.loop-item.to) (g.T.LineTaker.faults c.loop-item.to) _
    (nothing (ap (flat_map (g.P.ItemLines.lines c.args.printer.now)) (sym (past_places c.args.items.now c.loop-item.item-index c.loop-item-test.false))))
