use Rattle.certificate_lists.proofs.ShownRows.{shown_same}
use Rattle.certificate_lists.proofs.shown.shown_are_of_snapshots.Goals as goal

pub returns : goal.returns
returns c = shown_same
