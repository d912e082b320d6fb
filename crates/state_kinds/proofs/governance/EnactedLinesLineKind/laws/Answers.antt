use Rattle.state_kinds.proofs.StateLaws.{enacted_back, enacted_formed, enacted_plain}
use Rattle.state_kinds.proofs.governance.EnactedLinesLineKind.laws.Goals as goal

pub returns-clause-formed : goal.returns-clause-formed
returns-clause-formed c = enacted_formed

pub returns-clause-plain : goal.returns-clause-plain
returns-clause-plain c = enacted_plain

pub returns-clause-back : goal.returns-clause-back
returns-clause-back c = enacted_back
