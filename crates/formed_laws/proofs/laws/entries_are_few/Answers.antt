use Rattle.formed_laws.proofs.Counts.{entries_are_few}
use Rattle.formed_laws.proofs.laws.entries_are_few.Goals as goal

pub returns : goal.returns
returns c = entries_are_few
