use Rattle.told_lists.proofs.LiveParts.{live_only, no_books, no_governed}
use Rattle.told_lists.proofs.live.live_of.Goals as goal

pub returns-in_default : goal.returns-in_default
returns-in_default c = no_governed c.args.pots.now c.args.governance c.args.params c.args.rows (rw c.in_default.is at c.in_ok-governed.ensures)

pub returns-in_default-2 : goal.returns-in_default-2
returns-in_default-2 c =
    no_books c.args.pots.now c.args.governance c.args.params c.args.rows (c.in-Some.governed, c.in-Some.hot) (rw c.in-Some.is at c.in_ok-governed.ensures) (rw c.in_default-2.is at c.in_ok-books.ensures)

pub returns : goal.returns
returns c =
    live_only c.args.pots.now c.args.governance c.args.params c.args.rows (c.in-Some.governed, c.in-Some.hot) (rw c.in-Some.is at c.in_ok-governed.ensures) c.in-Some-2.books (rw c.in-Some-2.is at c.in_ok-books.ensures)
