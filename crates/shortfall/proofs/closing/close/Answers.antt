use Rattle.shortfall.proofs.Held.{closed, going}
use Rattle.shortfall.proofs.closing.close.Goals as goal

pub finished-counted-requires : goal.finished-counted-requires
finished-counted-requires c =
    let r = c.into_books-books.result in
    going c.args.s r.0 r.1 r.2 c.into_books-books.ensures.world c.into_books-books.ensures.held c.book.result.now c.book.ensures.value

pub returns-clause-snapshot : goal.returns-clause-snapshot
returns-clause-snapshot c =
    let r = c.into_books-books.result in
    closed c.args.s r.0 r.1 r.2 c.into_books-books.ensures.world c.into_books-books.ensures.held c.book.result.now c.book.ensures.value c.finished-counted.result c.finished-counted.ensures

pub returns-clause-counted : goal.returns-clause-counted
returns-clause-counted c =
    let r = c.into_books-books.result in
    let held = c.into_books-books.ensures.held in
    c.sound_can_be_counted.ensures c.args.s r.1 c.finished-counted.result held.sound
    (closed c.args.s r.0 r.1 r.2 c.into_books-books.ensures.world held c.book.result.now c.book.ensures.value c.finished-counted.result c.finished-counted.ensures)
