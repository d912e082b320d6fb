use Rattle.book_kinds.proofs.Fields.{number_field}
use Rattle.param_kinds.proofs.ValueLaws.{two_back, two_formed, two_plain}
use Rattle.param_kinds.proofs.numbers.TwoNumbersLineKind.laws.Goals as goal

pub returns-clause-formed : goal.returns-clause-formed
returns-clause-formed c = two_formed number_field number_field

pub returns-clause-plain : goal.returns-clause-plain
returns-clause-plain c = two_plain number_field number_field

pub returns-clause-back : goal.returns-clause-back
returns-clause-back c = two_back number_field number_field
