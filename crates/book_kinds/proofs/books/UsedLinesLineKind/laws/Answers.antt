use Rattle.book_kinds.proofs.BookLaws.{used_back, used_formed, used_plain}
use Rattle.book_kinds.proofs.books.UsedLinesLineKind.laws.Goals as goal

pub returns-clause-formed : goal.returns-clause-formed
returns-clause-formed c = used_formed

pub returns-clause-plain : goal.returns-clause-plain
returns-clause-plain c = used_plain

pub returns-clause-back : goal.returns-clause-back
returns-clause-back c = used_back
