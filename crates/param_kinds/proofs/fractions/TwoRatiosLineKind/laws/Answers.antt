use Rattle.param_kinds.proofs.ValueLaws.{ratio_field, two_back, two_formed, two_plain}
use Rattle.param_kinds.proofs.fractions.TwoRatiosLineKind.laws.Goals as goal

pub returns-clause-formed : goal.returns-clause-formed
returns-clause-formed c = two_formed ratio_field ratio_field

pub returns-clause-plain : goal.returns-clause-plain
returns-clause-plain c = two_plain ratio_field ratio_field

pub returns-clause-back : goal.returns-clause-back
returns-clause-back c = two_back ratio_field ratio_field
