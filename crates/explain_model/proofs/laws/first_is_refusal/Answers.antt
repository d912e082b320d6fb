use Rattle.explain_model.proofs.Firsts.{first_is_refusal}
use Rattle.explain_model.proofs.laws.first_is_refusal.Goals as goal

pub returns : goal.returns
returns c = first_is_refusal
