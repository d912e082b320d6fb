use Rattle.std.proofs.Common.{subst}
use Rattle.report.specs.Taking.{HasPut}
use Rattle.run_model.specs.World.{World}
use Rattle.text_model.specs.StateLines.{state_lines}
use Rattle.held_ledger.proofs.held.HeldRunState.put_state.Goals as goal

pub returns : goal.returns
returns g c =
    subst (λ (w : World). HasPut g.T.LineTaker.with_line g.T.LineTaker.IsPart c.args.line (g.T.LineTaker.taken c.args.to.now) (state_lines w) (g.T.LineTaker.taken c.put_state.new.to) (g.T.LineTaker.faults c.args.to.now) (g.T.LineTaker.faults c.put_state.new.to) c.put_state.result)
    c.get.ensures c.put_state.ensures
