use Rattle.further_laws.proofs.Sound.{resumable_is_sound}
use Rattle.further_laws.proofs.laws.resumable_is_sound.Goals as goal

pub returns : goal.returns
returns c = resumable_is_sound
