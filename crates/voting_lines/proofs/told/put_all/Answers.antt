use Rattle.std.proofs.Common.{flat_map, ap, sym, arith}
use Rattle.report.proofs.Handed.{put_both, put_front, nothing, of_place, past_places}
use Rattle.voting_lines.specs.Told.{told_lines}
use Rattle.voting_lines.proofs.told.put_all.Goals as goal

pub returns-in_err-put_at : goal.returns-in_err-put_at
returns-in_err-put_at g c =
    c.loop-i.invariant (g.T.LineTaker.taken c.put_at.new.to) (g.T.LineTaker.faults c.put_at.new.to) c.from_residual.result
    (put_front _ (of_place (told_lines c.args.ahead.now.tallies) c.args.proposals.now c.loop-i.i) c.in_err-put_at.ensures c.from_residual.ensures.1)

pub loop-i-preserved : goal.loop-i-preserved
loop-i-preserved g c = λ t f r later.
    c.loop-i.invariant t f r
    (put_both (of_place (told_lines c.args.ahead.now.tallies) c.args.proposals.now c.loop-i.i) c.in_ok-put_at.ensures later)

pub returns : goal.returns
returns g c =
    c.loop-i.invariant (g.T.LineTaker.taken c.loop-i.to) (g.T.LineTaker.faults c.loop-i.to) _
    (nothing (ap (flat_map (told_lines c.args.ahead.now.tallies)) (sym (past_places c.args.proposals.now c.loop-i.i (omega (arith, c.loop-i-test.false, c.len-i-end.ensures.count))))))
