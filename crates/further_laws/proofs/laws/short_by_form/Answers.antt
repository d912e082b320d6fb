use Rattle.further_laws.proofs.Lengths.{short_by_form}
use Rattle.further_laws.proofs.laws.short_by_form.Goals as goal

pub returns : goal.returns
returns c = short_by_form
