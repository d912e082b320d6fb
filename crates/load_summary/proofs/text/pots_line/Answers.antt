use Rattle.load_summary.proofs.text.pots_line.Goals as goal

pub returns : goal.returns
returns c = rw c.total.ensures at c.line_of.ensures
