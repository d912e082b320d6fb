use Rattle.tx_balance.proofs.Mints.{failed_keeps_assets}
use Rattle.tx_balance.proofs.laws.failed_keeps_assets.Goals as goal

pub returns : goal.returns
returns c = failed_keeps_assets
