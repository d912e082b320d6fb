use Rattle.epoch_balance.proofs.StepMoves.{terms_balance}
use Rattle.epoch_balance.proofs.steps.terms_balance.Goals as goal

pub returns : goal.returns
returns c = terms_balance
