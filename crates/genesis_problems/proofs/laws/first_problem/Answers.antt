use Rattle.genesis_problems.proofs.Rules.{first_is}
use Rattle.genesis_problems.proofs.laws.first_problem.Goals as goal

pub returns : goal.returns
returns c = first_is
