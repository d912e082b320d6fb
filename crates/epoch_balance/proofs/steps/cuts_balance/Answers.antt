use Rattle.epoch_balance.proofs.Removals.{cuts_balance}
use Rattle.epoch_balance.proofs.steps.cuts_balance.Goals as goal

pub returns : goal.returns
returns c = cuts_balance
