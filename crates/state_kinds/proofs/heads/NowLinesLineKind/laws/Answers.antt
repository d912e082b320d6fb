use Rattle.state_kinds.proofs.HeadLaws.{now_back, now_formed, now_plain}
use Rattle.state_kinds.proofs.heads.NowLinesLineKind.laws.Goals as goal

pub returns-clause-formed : goal.returns-clause-formed
returns-clause-formed c = now_formed

pub returns-clause-plain : goal.returns-clause-plain
returns-clause-plain c = now_plain

pub returns-clause-back : goal.returns-clause-back
returns-clause-back c = now_back
