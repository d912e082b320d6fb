use Rattle.tx_balance.proofs.Failed.{failed_balances}
use Rattle.tx_balance.proofs.laws.failed_balances.Goals as goal

pub returns : goal.returns
returns c = failed_balances
