use Rattle.further_laws.proofs.Followed.{rollback_stays_in_epoch}
use Rattle.further_laws.proofs.laws.rollback_stays_in_epoch.Goals as goal

pub returns : goal.returns
returns c = rollback_stays_in_epoch
