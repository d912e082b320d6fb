use Rattle.epoch_balance.proofs.StepMoves.{payments_balance}
use Rattle.epoch_balance.proofs.steps.payments_balance.Goals as goal

pub returns : goal.returns
returns c = payments_balance
