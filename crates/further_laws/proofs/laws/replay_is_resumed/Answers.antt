use Rattle.further_laws.proofs.Resumed.{replay_is_resumed}
use Rattle.further_laws.proofs.laws.replay_is_resumed.Goals as goal

pub returns : goal.returns
returns c = replay_is_resumed
