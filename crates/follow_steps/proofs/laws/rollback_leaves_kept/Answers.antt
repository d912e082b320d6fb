use Rattle.follow_steps.proofs.Steps.{rollback_leaves_kept}
use Rattle.follow_steps.proofs.laws.rollback_leaves_kept.Goals as goal

pub returns : goal.returns
returns c = rollback_leaves_kept
