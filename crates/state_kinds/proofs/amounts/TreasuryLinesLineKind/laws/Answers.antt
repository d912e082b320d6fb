use Rattle.state_kinds.proofs.StateLaws.{treasury_back, treasury_formed, treasury_plain}
use Rattle.state_kinds.proofs.amounts.TreasuryLinesLineKind.laws.Goals as goal

pub returns-clause-formed : goal.returns-clause-formed
returns-clause-formed c = treasury_formed

pub returns-clause-plain : goal.returns-clause-plain
returns-clause-plain c = treasury_plain

pub returns-clause-back : goal.returns-clause-back
returns-clause-back c = treasury_back
