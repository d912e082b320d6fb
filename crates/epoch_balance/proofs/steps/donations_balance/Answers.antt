use Rattle.epoch_balance.proofs.StepMoves.{donations_balance}
use Rattle.epoch_balance.proofs.steps.donations_balance.Goals as goal

pub returns : goal.returns
returns c = donations_balance
