use Rattle.std.proofs.Common.{subst}
use Rattle.report.specs.Taking.{HasPut}
use Rattle.text_model.specs.Shown.{Shown}
use Rattle.text_model.specs.StateLines.{lines_of_shown}
use Rattle.state_view.proofs.put.put_state.Goals as goal

pub returns : goal.returns
returns g c =
    subst (λ (s : Shown). HasPut g.T.LineTaker.with_line g.T.LineTaker.IsPart c.args.line (g.T.LineTaker.taken c.args.to.now) (lines_of_shown s) (g.T.LineTaker.taken c.put_state.new.to) (g.T.LineTaker.faults c.args.to.now) (g.T.LineTaker.faults c.put_state.new.to) c.put_state.result)
    c.view_of.ensures c.put_state.ensures
