use Rattle.genesis_balance.proofs.Start.{genesis_holds_supply}
use Rattle.genesis_balance.proofs.laws.genesis_holds_supply.Goals as goal

pub returns : goal.returns
returns c = genesis_holds_supply
