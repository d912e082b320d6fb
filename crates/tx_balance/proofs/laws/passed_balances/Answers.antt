use Rattle.tx_balance.proofs.Passed.{passed_balances}
use Rattle.tx_balance.proofs.laws.passed_balances.Goals as goal

pub returns : goal.returns
returns c = passed_balances
