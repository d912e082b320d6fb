use Rattle.std.proofs.Common.{Some, flat_map, ap, sym}
use Rattle.report.proofs.Handed.{put_both, put_front, nothing, of_first}
use Rattle.state_print.proofs.Walks.{found, found_none, fewer}
use Rattle.state_print.proofs.walk.put_walk.Goals as goal

pub loop-entry-smaller : goal.loop-entry-smaller
loop-entry-smaller g c =
    let past = g.W.Walked.past c.args.book.now in
    fewer past c.loop-entry.last c.in-Some.entry (found past c.as_ref.result c.loop-entry.last c.following.result c.in-Some.entry c.as_ref.ensures.value c.in-Some.is c.following.ensures)

pub returns-in_err-put_entry : goal.returns-in_err-put_entry
returns-in_err-put_entry g c =
    let past = g.W.Walked.past c.args.book.now in
    let e = c.in-Some.entry in
    c.loop-entry.invariant (g.T.LineTaker.taken c.put_entry.new.to) (g.T.LineTaker.faults c.put_entry.new.to) c.from_residual.result
    (put_front _ (of_first (g.W.Walked.lines c.args.book.now) (past c.loop-entry.last) (past (Some e.0)) e
    (found past c.as_ref.result c.loop-entry.last c.following.result e c.as_ref.ensures.value c.in-Some.is c.following.ensures)) c.in_err-put_entry.ensures c.from_residual.ensures.1)

pub loop-entry-preserved : goal.loop-entry-preserved
loop-entry-preserved g c = λ t f r later.
    let past = g.W.Walked.past c.args.book.now in
    let e = c.in-Some.entry in
    c.loop-entry.invariant t f r
    (put_both (of_first (g.W.Walked.lines c.args.book.now) (past c.loop-entry.last) (past (Some e.0)) e
    (found past c.as_ref.result c.loop-entry.last c.following.result e c.as_ref.ensures.value c.in-Some.is c.following.ensures)) c.in_ok-put_entry.ensures later)

pub returns : goal.returns
returns g c =
    let past = g.W.Walked.past c.args.book.now in
    c.loop-entry.invariant (g.T.LineTaker.taken c.loop-entry.to) (g.T.LineTaker.faults c.loop-entry.to) _
    (nothing (ap (flat_map (g.W.Walked.lines c.args.book.now)) (sym (found_none past c.as_ref.result c.loop-entry.last c.following.result c.as_ref.ensures.value c.in_default.is c.following.ensures))))
