use Rattle.replay_loop.proofs.Outlooks.{outlook_have}
use Rattle.replay_loop.proofs.told_last.OutlooksLastLines.have_words.Goals as goal

pub returns : goal.returns
returns g c = λ w n. outlook_have w
