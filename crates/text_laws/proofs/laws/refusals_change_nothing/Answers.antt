use Rattle.text_laws.proofs.Lines.{refusals_change_nothing}
use Rattle.text_laws.proofs.laws.refusals_change_nothing.Goals as goal

pub returns : goal.returns
returns c = refusals_change_nothing
