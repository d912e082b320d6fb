use Rattle.epoch_balance.proofs.StepMoves.{dormancy_balances}
use Rattle.epoch_balance.proofs.steps.dormancy_balances.Goals as goal

pub returns : goal.returns
returns c = dormancy_balances
