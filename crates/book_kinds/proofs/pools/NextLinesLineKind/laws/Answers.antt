use Rattle.book_kinds.proofs.PoolLaws.{next_back, next_formed, next_plain}
use Rattle.book_kinds.proofs.pools.NextLinesLineKind.laws.Goals as goal

pub returns-clause-formed : goal.returns-clause-formed
returns-clause-formed c = next_formed

pub returns-clause-plain : goal.returns-clause-plain
returns-clause-plain c = next_plain

pub returns-clause-back : goal.returns-clause-back
returns-clause-back c = next_back
