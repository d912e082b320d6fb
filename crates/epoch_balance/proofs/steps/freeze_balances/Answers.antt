use Rattle.epoch_balance.proofs.StepMoves.{freeze_balances}
use Rattle.epoch_balance.proofs.steps.freeze_balances.Goals as goal

pub returns : goal.returns
returns c = freeze_balances
