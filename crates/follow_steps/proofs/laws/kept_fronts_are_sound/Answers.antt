use Rattle.follow_steps.proofs.Steps.{kept_fronts_are_sound}
use Rattle.follow_steps.proofs.laws.kept_fronts_are_sound.Goals as goal

pub returns : goal.returns
returns c = kept_fronts_are_sound
