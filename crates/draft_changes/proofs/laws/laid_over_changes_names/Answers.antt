use Rattle.draft_changes.proofs.Naming.{laid_over_changes_names}
use Rattle.draft_changes.proofs.laws.laid_over_changes_names.Goals as goal

pub returns : goal.returns
returns c = laid_over_changes_names
