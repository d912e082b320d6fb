use Rattle.std.proofs.Common.{◌^◌, arith}
use Rattle.line_kinds.specs.Cuts.{word_at}
use Rattle.param_kinds.proofs.ValueLaws.{one_plain, small_field}
use Rattle.param_kinds.proofs.numbers.Number32LineKind.laws.Goals as goal

pub returns-clause-formed : goal.returns-clause-formed
returns-clause-formed c = let field = small_field (2 ^ 32) (omega arith) in λ ws. field.formed (word_at 0 ws)

pub returns-clause-plain : goal.returns-clause-plain
returns-clause-plain c = one_plain (small_field (2 ^ 32) (omega arith))

pub returns-clause-back : goal.returns-clause-back
returns-clause-back c = let field = small_field (2 ^ 32) (omega arith) in field.back
