use Rattle.std.proofs.Common.{arith}
use Rattle.param_kinds.proofs.ValueLaws.{units_back, units_formed, units_plain}
use Rattle.param_kinds.proofs.fractions.FiveUnitsLineKind.laws.Goals as goal

pub returns-clause-formed : goal.returns-clause-formed
returns-clause-formed c = units_formed 5

pub returns-clause-plain : goal.returns-clause-plain
returns-clause-plain c = units_plain 5 (omega arith) (omega arith)

pub returns-clause-back : goal.returns-clause-back
returns-clause-back c = units_back 5
