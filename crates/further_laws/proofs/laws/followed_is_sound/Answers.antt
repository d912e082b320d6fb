use Rattle.further_laws.proofs.Followed.{followed_is_sound}
use Rattle.further_laws.proofs.laws.followed_is_sound.Goals as goal

pub returns : goal.returns
returns c = followed_is_sound
