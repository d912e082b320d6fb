use Rattle.further_laws.proofs.Parts.{parts_are_the_counts}
use Rattle.further_laws.proofs.laws.parts_are_the_counts.Goals as goal

pub returns : goal.returns
returns c = parts_are_the_counts
