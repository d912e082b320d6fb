use Rattle.tx_balance.proofs.Mints.{passed_mints}
use Rattle.tx_balance.proofs.laws.passed_mints.Goals as goal

pub returns : goal.returns
returns c = passed_mints
