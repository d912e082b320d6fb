use Rattle.formed_laws.proofs.Genesis.{genesis_has_form}
use Rattle.formed_laws.proofs.laws.genesis_has_form.Goals as goal

pub returns : goal.returns
returns c = genesis_has_form
