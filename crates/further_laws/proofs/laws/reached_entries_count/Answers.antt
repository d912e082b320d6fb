use Rattle.further_laws.proofs.Reached.{reached_entries_count}
use Rattle.further_laws.proofs.laws.reached_entries_count.Goals as goal

pub returns : goal.returns
returns c = reached_entries_count
