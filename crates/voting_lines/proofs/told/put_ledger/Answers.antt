use Rattle.voting_lines.specs.Told.{voting_lines}
use Rattle.report.proofs.Handed.{put_nothing}
use Rattle.voting_lines.proofs.told.put_ledger.Goals as goal

pub returns-in_err-ahead : goal.returns-in_err-ahead
returns-in_err-ahead g c =
    put_nothing (voting_lines c.args.ledger.now) (g.T.LineTaker.taken c.args.to.now) (g.T.LineTaker.faults c.args.to.now) c.from_residual.ensures.1
