use Rattle.gov_model.proofs.OneList.{one_list_is_ratified}
use Rattle.gov_model.proofs.laws.one_list_is_ratified.Goals as goal

pub returns : goal.returns
returns c = one_list_is_ratified
