use Rattle.std.proofs.Common.{map}
use Rattle.explain_model.specs.Explained.{problem_words}
use Rattle.explain_model.specs.of_genesis_problems.Problems.{genesis_problems}
use Rattle.report.proofs.Handed.{put_nothing}
use Rattle.explain_print.proofs.first.put_problems.Goals as goal

pub returns-in_err-problems : goal.returns-in_err-problems
returns-in_err-problems g c =
    put_nothing (map problem_words (genesis_problems c.args.genesis.now)) (g.T.LineTaker.taken c.args.to.now) (g.T.LineTaker.faults c.args.to.now) c.from_residual.ensures.1
