use Rattle.explain_model.proofs.Firsts.{none_where_accepted}
use Rattle.explain_model.proofs.laws.none_where_accepted.Goals as goal

pub returns : goal.returns
returns c = none_where_accepted
