use Rattle.run_laws.proofs.Sound.{genesis_begins_sound}
use Rattle.run_laws.proofs.laws.genesis_begins_sound.Goals as goal

pub returns : goal.returns
returns c = genesis_begins_sound
