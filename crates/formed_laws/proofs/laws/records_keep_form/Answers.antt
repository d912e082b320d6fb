use Rattle.formed_laws.proofs.Steps.{records_keep_form}
use Rattle.formed_laws.proofs.laws.records_keep_form.Goals as goal

pub returns : goal.returns
returns c = records_keep_form
