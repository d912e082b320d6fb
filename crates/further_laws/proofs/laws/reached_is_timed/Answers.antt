use Rattle.further_laws.proofs.Reached.{reached_is_timed}
use Rattle.further_laws.proofs.laws.reached_is_timed.Goals as goal

pub returns : goal.returns
returns c = reached_is_timed
