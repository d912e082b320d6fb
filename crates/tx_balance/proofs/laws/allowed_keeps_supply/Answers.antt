use Rattle.tx_balance.proofs.Sounds.{allowed_keeps_supply}
use Rattle.tx_balance.proofs.laws.allowed_keeps_supply.Goals as goal

pub returns : goal.returns
returns c = allowed_keeps_supply
