use Rattle.book_kinds.proofs.FrozenLaws.{pool_account_back, pool_account_formed, pool_account_plain}
use Rattle.book_kinds.proofs.epoch.PoolAccountLinesLineKind.laws.Goals as goal

pub returns-clause-formed : goal.returns-clause-formed
returns-clause-formed c = pool_account_formed

pub returns-clause-plain : goal.returns-clause-plain
returns-clause-plain c = pool_account_plain

pub returns-clause-back : goal.returns-clause-back
returns-clause-back c = pool_account_back
