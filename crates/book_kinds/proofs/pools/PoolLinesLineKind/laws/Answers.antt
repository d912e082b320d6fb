use Rattle.book_kinds.proofs.PoolLaws.{pool_back, pool_formed, pool_plain}
use Rattle.book_kinds.proofs.pools.PoolLinesLineKind.laws.Goals as goal

pub returns-clause-formed : goal.returns-clause-formed
returns-clause-formed c = pool_formed

pub returns-clause-plain : goal.returns-clause-plain
returns-clause-plain c = pool_plain

pub returns-clause-back : goal.returns-clause-back
returns-clause-back c = pool_back
