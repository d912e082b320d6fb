use Rattle.std.proofs.Common.{◌+◌, drop, sym}
use Rattle.ratify.specs.Passes.{of_priority}
use Rattle.claims.proofs.Priorities.{from_next, none_left}
use Rattle.claims.proofs.Passed.{passed_as, passed_both, passed_front, passed_none}
use Rattle.claims.proofs.blocks.put_priority.Goals as goal

pub returns-in_err-passing-clause-passed : goal.returns-in_err-passing-clause-passed
returns-in_err-passing-clause-passed g c = λ s of.
    let ps = c.args.proposals.now in
    let i = c.loop-a.a-index in
    c.loop-a.invariant.passed s of (g.T.LineTaker.taken c.put_proposal.new.to) (g.T.LineTaker.faults c.put_proposal.new.to) c.from_residual.result
    (passed_front s (of_priority c.args.priority (drop (i + 1) ps)) (from_next c.args.priority ps i c.a-item.result c.loop-a-test.true c.a-item.is)
    (c.in_err-passing.ensures.passed s of) c.from_residual.ensures.1)

pub loop-a-preserved : goal.loop-a-preserved
loop-a-preserved g c = record {
  passed = λ s of t faults r later.
      c.loop-a.invariant.passed s of t faults r
      (passed_both s (from_next c.args.priority c.args.proposals.now c.loop-a.a-index c.a-item.result c.loop-a-test.true c.a-item.is) (c.in_ok-passing.ensures.passed s of) later);
  members = c.in_ok-passing.ensures.members;
}

pub returns-clause-passed : goal.returns-clause-passed
returns-clause-passed g c = λ s of.
    c.loop-a.invariant.passed s of (g.T.LineTaker.taken c.loop-a.to) (g.T.LineTaker.faults c.loop-a.to) _
    (passed_as s (sym (none_left c.args.priority c.args.proposals.now c.loop-a.a-index c.loop-a-test.false))
    (passed_none s (g.T.LineTaker.taken c.loop-a.to) (g.T.LineTaker.faults c.loop-a.to) c.loop-a.passing))
