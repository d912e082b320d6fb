use Rattle.tx_balance.proofs.Supplies.{moves_keep_supply}
use Rattle.tx_balance.proofs.laws.moves_keep_supply.Goals as goal

pub returns : goal.returns
returns c = moves_keep_supply
