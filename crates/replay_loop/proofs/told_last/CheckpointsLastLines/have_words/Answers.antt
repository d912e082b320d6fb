use Rattle.replay_loop.proofs.Worded.{checkpoint_has}
use Rattle.replay_loop.proofs.told_last.CheckpointsLastLines.have_words.Goals as goal

pub returns : goal.returns
returns g c = λ w n. checkpoint_has w n
