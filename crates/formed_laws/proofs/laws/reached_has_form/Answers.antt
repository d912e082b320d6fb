use Rattle.formed_laws.proofs.Reached.{reached_has_form}
use Rattle.formed_laws.proofs.laws.reached_has_form.Goals as goal

pub returns : goal.returns
returns c = reached_has_form
