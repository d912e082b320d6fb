use Rattle.run_laws.proofs.Reach.{flows_balance}
use Rattle.run_laws.proofs.laws.flows_balance.Goals as goal

pub returns : goal.returns
returns c = flows_balance
