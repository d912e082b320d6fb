use Rattle.line_kinds.specs.Cuts.{word_at}
use Rattle.book_kinds.proofs.Fields.{hash_field}
use Rattle.param_kinds.proofs.ValueLaws.{one_plain}
use Rattle.param_kinds.proofs.numbers.Hash32LineKind.laws.Goals as goal

pub returns-clause-formed : goal.returns-clause-formed
returns-clause-formed c = let field = hash_field 32 in λ ws. field.formed (word_at 0 ws)

pub returns-clause-plain : goal.returns-clause-plain
returns-clause-plain c = one_plain (hash_field 32)

pub returns-clause-back : goal.returns-clause-back
returns-clause-back c = let field = hash_field 32 in field.back
