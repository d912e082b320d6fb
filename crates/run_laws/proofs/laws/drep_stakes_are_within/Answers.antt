use Rattle.run_laws.proofs.SoundSums.{drep_stakes_are_within}
use Rattle.run_laws.proofs.laws.drep_stakes_are_within.Goals as goal

pub returns : goal.returns
returns c = drep_stakes_are_within
