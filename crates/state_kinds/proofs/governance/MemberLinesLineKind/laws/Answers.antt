use Rattle.state_kinds.proofs.StateLaws.{member_back, member_formed, member_plain}
use Rattle.state_kinds.proofs.governance.MemberLinesLineKind.laws.Goals as goal

pub returns-clause-formed : goal.returns-clause-formed
returns-clause-formed c = member_formed

pub returns-clause-plain : goal.returns-clause-plain
returns-clause-plain c = member_plain

pub returns-clause-back : goal.returns-clause-back
returns-clause-back c = member_back
