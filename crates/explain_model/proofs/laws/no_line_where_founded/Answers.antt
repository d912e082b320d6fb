use Rattle.explain_model.proofs.Firsts.{no_line_where_founded}
use Rattle.explain_model.proofs.laws.no_line_where_founded.Goals as goal

pub returns : goal.returns
returns c = no_line_where_founded c.first_problem.ensures
