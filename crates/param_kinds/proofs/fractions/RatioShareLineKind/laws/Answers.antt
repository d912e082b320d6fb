use Rattle.line_kinds.specs.Cuts.{word_at}
use Rattle.param_kinds.proofs.ValueLaws.{one_plain, ratio_field}
use Rattle.param_kinds.proofs.fractions.RatioShareLineKind.laws.Goals as goal

pub returns-clause-formed : goal.returns-clause-formed
returns-clause-formed c = λ ws. ratio_field.formed (word_at 0 ws)

pub returns-clause-plain : goal.returns-clause-plain
returns-clause-plain c = one_plain ratio_field

pub returns-clause-back : goal.returns-clause-back
returns-clause-back c = ratio_field.back
