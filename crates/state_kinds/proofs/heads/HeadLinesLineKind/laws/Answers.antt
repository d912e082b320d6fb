use Rattle.state_kinds.proofs.HeadLaws.{head_back, head_formed, head_plain}
use Rattle.state_kinds.proofs.heads.HeadLinesLineKind.laws.Goals as goal

pub returns-clause-formed : goal.returns-clause-formed
returns-clause-formed c = head_formed

pub returns-clause-plain : goal.returns-clause-plain
returns-clause-plain c = head_plain

pub returns-clause-back : goal.returns-clause-back
returns-clause-back c = head_back
