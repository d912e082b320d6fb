use Rattle.run_laws.proofs.SoundSums.{pool_stakes_are_within}
use Rattle.run_laws.proofs.laws.pool_stakes_are_within.Goals as goal

pub returns : goal.returns
returns c = pool_stakes_are_within
