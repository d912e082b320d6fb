use Rattle.epoch_balance.proofs.StepMoves.{rewards_balance}
use Rattle.epoch_balance.proofs.steps.rewards_balance.Goals as goal

pub returns : goal.returns
returns c = rewards_balance
