use Rattle.further_laws.proofs.Verdicts.{verdicts_are_of_one_list}
use Rattle.further_laws.proofs.laws.verdicts_are_of_one_list.Goals as goal

pub returns : goal.returns
returns c = verdicts_are_of_one_list
