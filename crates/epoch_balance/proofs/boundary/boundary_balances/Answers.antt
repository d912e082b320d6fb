use Rattle.epoch_balance.proofs.Whole.{boundary_balances}
use Rattle.epoch_balance.proofs.boundary.boundary_balances.Goals as goal

pub returns : goal.returns
returns c = boundary_balances
