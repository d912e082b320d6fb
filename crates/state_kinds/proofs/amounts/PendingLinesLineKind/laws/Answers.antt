use Rattle.state_kinds.proofs.StateLaws.{pending_back, pending_formed, pending_plain}
use Rattle.state_kinds.proofs.amounts.PendingLinesLineKind.laws.Goals as goal

pub returns-clause-formed : goal.returns-clause-formed
returns-clause-formed c = pending_formed

pub returns-clause-plain : goal.returns-clause-plain
returns-clause-plain c = pending_plain

pub returns-clause-back : goal.returns-clause-back
returns-clause-back c = pending_back
