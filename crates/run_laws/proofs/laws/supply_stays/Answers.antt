use Rattle.run_laws.proofs.Reach.{supply_stays}
use Rattle.run_laws.proofs.laws.supply_stays.Goals as goal

pub returns : goal.returns
returns c = supply_stays
