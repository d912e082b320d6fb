use Rattle.load_summary.proofs.text.load_line.Goals as goal

pub returns : goal.returns
returns c = c.line_of.ensures
