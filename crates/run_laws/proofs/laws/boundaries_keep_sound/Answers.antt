use Rattle.run_laws.proofs.Sound.{boundaries_keep_sound}
use Rattle.run_laws.proofs.laws.boundaries_keep_sound.Goals as goal

pub returns : goal.returns
returns c = boundaries_keep_sound
