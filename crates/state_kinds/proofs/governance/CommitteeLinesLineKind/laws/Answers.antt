use Rattle.state_kinds.proofs.StateLaws.{committee_back, committee_formed, committee_plain}
use Rattle.state_kinds.proofs.governance.CommitteeLinesLineKind.laws.Goals as goal

pub returns-clause-formed : goal.returns-clause-formed
returns-clause-formed c = committee_formed

pub returns-clause-plain : goal.returns-clause-plain
returns-clause-plain c = committee_plain

pub returns-clause-back : goal.returns-clause-back
returns-clause-back c = committee_back
