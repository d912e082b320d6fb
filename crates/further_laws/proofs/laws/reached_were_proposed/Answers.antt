use Rattle.further_laws.proofs.Proposed.{reached_were_proposed}
use Rattle.further_laws.proofs.laws.reached_were_proposed.Goals as goal

pub returns : goal.returns
returns c = reached_were_proposed
