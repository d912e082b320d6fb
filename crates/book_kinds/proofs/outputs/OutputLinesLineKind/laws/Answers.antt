use Rattle.book_kinds.proofs.OutputLaws.{output_back, output_formed, output_plain}
use Rattle.book_kinds.proofs.outputs.OutputLinesLineKind.laws.Goals as goal

pub returns-clause-formed : goal.returns-clause-formed
returns-clause-formed c = output_formed

pub returns-clause-plain : goal.returns-clause-plain
returns-clause-plain c = output_plain

pub returns-clause-back : goal.returns-clause-back
returns-clause-back c = output_back
