use Rattle.state_kinds.proofs.StateLaws.{constitution_back, constitution_formed, constitution_plain}
use Rattle.state_kinds.proofs.governance.ConstitutionLinesLineKind.laws.Goals as goal

pub returns-clause-formed : goal.returns-clause-formed
returns-clause-formed c = constitution_formed

pub returns-clause-plain : goal.returns-clause-plain
returns-clause-plain c = constitution_plain

pub returns-clause-back : goal.returns-clause-back
returns-clause-back c = constitution_back
