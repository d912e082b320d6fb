use Rattle.std.proofs.Common.{◌+◌, sym}
use Rattle.report.proofs.Puts.{put_none}
use Rattle.report.proofs.Handed.{put_as, put_both, put_front}
use Rattle.short_lines.proofs.InPriority.{all_priorities, lines_later, next_priority, none_later}
use Rattle.short_lines.proofs.proposals.put_ranked.Goals as goal

pub returns-in_err-put_priority : goal.returns-in_err-put_priority
returns-in_err-put_priority g c = λ s of ranked counts.
    let p = c.loop-priority.priority in
    put_as (sym (all_priorities s))
    (c.loop-priority.invariant s of ranked counts (g.T.LineTaker.taken c.put_priority.new.to) (g.T.LineTaker.faults c.put_priority.new.to) c.from_residual.result
    (put_front (lines_later s s.proposals (p + 1)) (next_priority s s.proposals p c.loop-priority-test.true) (c.in_err-put_priority.ensures s of ranked counts) c.from_residual.ensures.1))

pub loop-priority-preserved : goal.loop-priority-preserved
loop-priority-preserved g c = λ s of ranked counts t f r later.
    c.loop-priority.invariant s of ranked counts t f r
    (put_both (next_priority s s.proposals c.loop-priority.priority c.loop-priority-test.true) (c.in_ok-put_priority.ensures s of ranked counts) later)

pub returns : goal.returns
returns g c = λ s of ranked counts.
    put_as (sym (all_priorities s))
    (c.loop-priority.invariant s of ranked counts (g.T.LineTaker.taken c.loop-priority.to) (g.T.LineTaker.faults c.loop-priority.to) _
    (put_as (sym (none_later s s.proposals c.loop-priority.priority c.loop-priority-test.false))
    (put_none g.T.LineTaker.with_line g.T.LineTaker.IsPart c.args.line (g.T.LineTaker.taken c.loop-priority.to) (g.T.LineTaker.faults c.loop-priority.to))))
