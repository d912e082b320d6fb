use Rattle.gov_model.proofs.KeptOf.{kept_of_is_kept}
use Rattle.gov_model.proofs.laws.what_is_kept.Goals as goal

pub returns : goal.returns
returns c = kept_of_is_kept
