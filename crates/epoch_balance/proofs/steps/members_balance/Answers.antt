use Rattle.epoch_balance.proofs.StepMoves.{members_balance}
use Rattle.epoch_balance.proofs.steps.members_balance.Goals as goal

pub returns : goal.returns
returns c = members_balance
