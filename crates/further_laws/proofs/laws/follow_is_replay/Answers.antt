use Rattle.further_laws.proofs.Followed.{follow_is_replay}
use Rattle.further_laws.proofs.laws.follow_is_replay.Goals as goal

pub returns : goal.returns
returns c = follow_is_replay
