use Rattle.line_parts.proofs.Repeats.{start_of_items}
use Rattle.line_parts.proofs.many.ManyPart.laws.Goals as goal

-- src/many.rt:37:5
pub returns : goal.returns
returns g c = start_of_items g.P.Part.shape g.P.Part.form g.P.Part.words c.laws.ensures
