use Rattle.follow_steps.proofs.Steps.{plain_is_step}
use Rattle.follow_steps.proofs.laws.plain_is_step.Goals as goal

pub returns : goal.returns
returns c = plain_is_step
