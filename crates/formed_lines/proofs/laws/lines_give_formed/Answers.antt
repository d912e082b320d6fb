use Rattle.formed_lines.proofs.Lines.{lines_give_formed}
use Rattle.formed_lines.proofs.laws.lines_give_formed.Goals as goal

pub returns : goal.returns
returns c = lines_give_formed
