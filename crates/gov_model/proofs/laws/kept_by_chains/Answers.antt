use Rattle.gov_model.proofs.Chains.{kept_by_chains}
use Rattle.gov_model.proofs.laws.kept_by_chains.Goals as goal

pub returns : goal.returns
returns c = kept_by_chains
