use Rattle.std.proofs.Common.{◌+◌, sym}
use Rattle.claims.proofs.Priorities.{all_later, later, next_priority, none_later}
use Rattle.claims.proofs.Passed.{passed_as, passed_both, passed_front, passed_none}
use Rattle.claims.proofs.blocks.put_priorities.Goals as goal

pub returns-in_err-passing : goal.returns-in_err-passing
returns-in_err-passing g c = λ s of.
    let ps = c.args.proposals.now in
    let p = c.loop-priority.priority in
    passed_as s (all_later ps)
    (c.loop-priority.invariant.passed s of (g.T.LineTaker.taken c.put_priority.new.to) (g.T.LineTaker.faults c.put_priority.new.to) c.from_residual.result
    (passed_front s (later ps (p + 1)) (next_priority ps p c.loop-priority-test.true) (c.in_err-passing.ensures.passed s of) c.from_residual.ensures.1))

pub loop-priority-preserved : goal.loop-priority-preserved
loop-priority-preserved g c = record {
  passed = λ s of t faults r rest.
      c.loop-priority.invariant.passed s of t faults r
      (passed_both s (next_priority c.args.proposals.now c.loop-priority.priority c.loop-priority-test.true) (c.in_ok-passing.ensures.passed s of) rest);
  members = c.in_ok-passing.ensures.members;
}

pub returns : goal.returns
returns g c = λ s of.
    passed_as s (all_later c.args.proposals.now)
    (c.loop-priority.invariant.passed s of (g.T.LineTaker.taken c.loop-priority.to) (g.T.LineTaker.faults c.loop-priority.to) _
    (passed_as s (sym (none_later c.args.proposals.now c.loop-priority.priority c.loop-priority-test.false))
    (passed_none s (g.T.LineTaker.taken c.loop-priority.to) (g.T.LineTaker.faults c.loop-priority.to) c.loop-priority.passing)))
