use Rattle.book_kinds.proofs.BookLaws.{drep_back, drep_formed, drep_plain}
use Rattle.book_kinds.proofs.books.DrepLinesLineKind.laws.Goals as goal

pub returns-clause-formed : goal.returns-clause-formed
returns-clause-formed c = drep_formed

pub returns-clause-plain : goal.returns-clause-plain
returns-clause-plain c = drep_plain

pub returns-clause-back : goal.returns-clause-back
returns-clause-back c = drep_back
