use Rattle.dormant_laws.proofs.Dormant.{dormant_bound}
use Rattle.dormant_laws.proofs.dormant_bound.Goals as goal

pub returns : goal.returns
returns c = dormant_bound
