use Rattle.state_kinds.proofs.StateLaws.{noted_fees_back, noted_fees_formed, noted_fees_plain}
use Rattle.state_kinds.proofs.amounts.NotedFeesLinesLineKind.laws.Goals as goal

pub returns-clause-formed : goal.returns-clause-formed
returns-clause-formed c = noted_fees_formed

pub returns-clause-plain : goal.returns-clause-plain
returns-clause-plain c = noted_fees_plain

pub returns-clause-back : goal.returns-clause-back
returns-clause-back c = noted_fees_back
