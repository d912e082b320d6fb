use Rattle.epoch_balance.proofs.Removals.{removals_balance}
use Rattle.epoch_balance.proofs.steps.removals_balance.Goals as goal

pub returns : goal.returns
returns c = removals_balance
