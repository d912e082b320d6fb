use Rattle.text_laws.proofs.Lines.{counted_is_shown}
use Rattle.text_laws.proofs.laws.counted_is_shown.Goals as goal

pub returns : goal.returns
returns c = counted_is_shown
