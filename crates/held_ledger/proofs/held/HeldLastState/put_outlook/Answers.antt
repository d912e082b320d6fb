use Rattle.std.proofs.Common.{subst}
use Rattle.bare_lines.specs.Bare.{bare, bare_part}
use Rattle.outlook_model.specs.Outlook.{outlook_lines}
use Rattle.report.specs.Taking.{HasPut}
use Rattle.run_model.specs.World.{World}
use Rattle.held_ledger.proofs.held.HeldLastState.put_outlook.Goals as goal

pub returns : goal.returns
returns g c =
    subst (λ (w : World). HasPut (bare g.T.LineTaker.with_line) (bare_part g.T.LineTaker.IsPart) 0 (g.T.LineTaker.taken c.args.to.now) (outlook_lines w) (g.T.LineTaker.taken c.put_bare_outlook.new.to)
    (g.T.LineTaker.faults c.args.to.now) (g.T.LineTaker.faults c.put_bare_outlook.new.to) c.put_bare_outlook.result) c.into_value.ensures c.put_bare_outlook.ensures
