use Rattle.book_kinds.proofs.FrozenLaws.{expiry_back, expiry_formed, expiry_plain}
use Rattle.book_kinds.proofs.epoch.ExpiryLinesLineKind.laws.Goals as goal

pub returns-clause-formed : goal.returns-clause-formed
returns-clause-formed c = expiry_formed

pub returns-clause-plain : goal.returns-clause-plain
returns-clause-plain c = expiry_plain

pub returns-clause-back : goal.returns-clause-back
returns-clause-back c = expiry_back
