use Rattle.std.proofs.Common.{codes, refl}
use Rattle.book_kinds.proofs.OutputLaws.{stake_back, stake_formed, stake_plain}
use Rattle.book_kinds.proofs.stakes.GoLinesLineKind.laws.Goals as goal

pub returns-clause-formed : goal.returns-clause-formed
returns-clause-formed c = stake_formed

pub returns-clause-plain : goal.returns-clause-plain
returns-clause-plain c = stake_plain (codes "go") refl

pub returns-clause-back : goal.returns-clause-back
returns-clause-back c = stake_back (codes "go")
