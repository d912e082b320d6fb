use Rattle.epoch_balance.proofs.StepMoves.{enactment_balances}
use Rattle.epoch_balance.proofs.steps.enactment_balances.Goals as goal

pub returns : goal.returns
returns c = enactment_balances
