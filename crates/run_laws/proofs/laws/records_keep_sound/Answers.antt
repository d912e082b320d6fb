use Rattle.run_laws.proofs.Sound.{records_keep_sound}
use Rattle.run_laws.proofs.laws.records_keep_sound.Goals as goal

pub returns : goal.returns
returns c = records_keep_sound
