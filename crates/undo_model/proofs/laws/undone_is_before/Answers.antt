use Rattle.undo_model.proofs.Undoing.{undone_is_before}
use Rattle.undo_model.proofs.laws.undone_is_before.Goals as goal

pub returns : goal.returns
returns c = undone_is_before
