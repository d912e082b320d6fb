use Rattle.follow_steps.proofs.Steps.{epoch_is_of_slot}
use Rattle.follow_steps.proofs.laws.epoch_is_of_slot.Goals as goal

pub returns : goal.returns
returns c = epoch_is_of_slot
