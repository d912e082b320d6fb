use Rattle.follow_steps.proofs.Steps.{kept_are_not_later}
use Rattle.follow_steps.proofs.laws.kept_are_not_later.Goals as goal

pub returns : goal.returns
returns c = kept_are_not_later
