use Rattle.line_kinds.specs.Cuts.{word_at}
use Rattle.book_kinds.proofs.Fields.{number_field}
use Rattle.param_kinds.proofs.ValueLaws.{one_plain}
use Rattle.param_kinds.proofs.numbers.Number64LineKind.laws.Goals as goal

pub returns-clause-formed : goal.returns-clause-formed
returns-clause-formed c = λ ws. number_field.formed (word_at 0 ws)

pub returns-clause-plain : goal.returns-clause-plain
returns-clause-plain c = one_plain number_field

pub returns-clause-back : goal.returns-clause-back
returns-clause-back c = number_field.back
