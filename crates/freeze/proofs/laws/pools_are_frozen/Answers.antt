use Rattle.freeze.proofs.Marks.{pools_are_frozen}
use Rattle.freeze.proofs.laws.pools_are_frozen.Goals as goal

pub returns : goal.returns
returns c = pools_are_frozen
