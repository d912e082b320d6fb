use Rattle.book_kinds.proofs.BookLaws.{account_back, account_formed, account_plain}
use Rattle.book_kinds.proofs.books.AccountLinesLineKind.laws.Goals as goal

pub returns-clause-formed : goal.returns-clause-formed
returns-clause-formed c = account_formed

pub returns-clause-plain : goal.returns-clause-plain
returns-clause-plain c = account_plain

pub returns-clause-back : goal.returns-clause-back
returns-clause-back c = account_back
