use Rattle.tx_balance.proofs.Sounds.{allowed_stays_sound}
use Rattle.tx_balance.proofs.laws.allowed_stays_sound.Goals as goal

pub returns : goal.returns
returns c = allowed_stays_sound
