use Rattle.epoch_balance.proofs.StepMoves.{pools_balance}
use Rattle.epoch_balance.proofs.steps.pools_balance.Goals as goal

pub returns : goal.returns
returns c = pools_balance
