use Rattle.book_kinds.proofs.BookLaws.{reward_back, reward_formed, reward_plain}
use Rattle.book_kinds.proofs.books.RewardLinesLineKind.laws.Goals as goal

pub returns-clause-formed : goal.returns-clause-formed
returns-clause-formed c = reward_formed

pub returns-clause-plain : goal.returns-clause-plain
returns-clause-plain c = reward_plain

pub returns-clause-back : goal.returns-clause-back
returns-clause-back c = reward_back
