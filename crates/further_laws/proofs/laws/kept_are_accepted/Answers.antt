use Rattle.further_laws.proofs.Followed.{kept_are_accepted}
use Rattle.further_laws.proofs.laws.kept_are_accepted.Goals as goal

pub returns : goal.returns
returns c = kept_are_accepted
