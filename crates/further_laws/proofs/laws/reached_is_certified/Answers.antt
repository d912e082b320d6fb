use Rattle.further_laws.proofs.Kept.{reached_is_certified}
use Rattle.further_laws.proofs.laws.reached_is_certified.Goals as goal

pub returns : goal.returns
returns c = reached_is_certified
