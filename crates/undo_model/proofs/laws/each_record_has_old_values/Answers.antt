use Rattle.undo_model.proofs.Stepping.{each_record_has_old_values}
use Rattle.undo_model.proofs.laws.each_record_has_old_values.Goals as goal

pub returns : goal.returns
returns c = each_record_has_old_values
