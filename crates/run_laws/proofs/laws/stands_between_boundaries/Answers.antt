use Rattle.run_laws.proofs.Reach.{stands_between_boundaries}
use Rattle.run_laws.proofs.laws.stands_between_boundaries.Goals as goal

pub returns : goal.returns
returns c = stands_between_boundaries
