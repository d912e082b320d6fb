use Rattle.further_laws.proofs.Kept.{reached_is_resumable}
use Rattle.further_laws.proofs.laws.reached_is_resumable.Goals as goal

pub returns : goal.returns
returns c = reached_is_resumable
