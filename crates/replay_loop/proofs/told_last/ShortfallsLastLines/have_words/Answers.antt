use Rattle.replay_loop.proofs.Shortfalls.{lines_have}
use Rattle.replay_loop.proofs.told_last.ShortfallsLastLines.have_words.Goals as goal

pub returns : goal.returns
returns g c = λ w n. lines_have w.frozen
