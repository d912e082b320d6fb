use Rattle.shortfall_model.specs.ShortLines.{shortfall_lines}
use Rattle.report.proofs.Handed.{put_nothing}
use Rattle.short_lines.proofs.proposals.put_shortfalls.Goals as goal

pub returns-in_err-ranking : goal.returns-in_err-ranking
returns-in_err-ranking g c = λ s of. put_nothing (shortfall_lines s) (g.T.LineTaker.taken c.args.to.now) (g.T.LineTaker.faults c.args.to.now) c.from_residual.ensures.1

pub returns-in_err-cells : goal.returns-in_err-cells
returns-in_err-cells g c = λ s of. put_nothing (shortfall_lines s) (g.T.LineTaker.taken c.args.to.now) (g.T.LineTaker.faults c.args.to.now) c.from_residual-in_err-cells.ensures.1
