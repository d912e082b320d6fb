use Rattle.further_laws.proofs.Followed.{count_never_falls}
use Rattle.further_laws.proofs.laws.count_never_falls.Goals as goal

pub returns : goal.returns
returns c = count_never_falls
