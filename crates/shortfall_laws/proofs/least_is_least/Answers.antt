use Rattle.shortfall_laws.proofs.Fewest.{least_is_least}
use Rattle.shortfall_laws.proofs.least_is_least.Goals as goal

pub returns : goal.returns
returns c = least_is_least
