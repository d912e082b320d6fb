use Rattle.genesis_balance.proofs.Start.{genesis_is_sound}
use Rattle.genesis_balance.proofs.laws.genesis_is_sound.Goals as goal

pub returns : goal.returns
returns c = genesis_is_sound
