use Rattle.told_lists.proofs.BookParts.{books_only, deposits_are, deposits_differ, no_books, no_held}
use Rattle.told_lists.proofs.books.books_of.Goals as goal

pub returns-in_default : goal.returns-in_default
returns-in_default c = λ l. no_held l c.args.pots.now c.args.rows c.args.others.0 c.args.others.1 c.args.others.2 (rw c.in_default.is at c.in_ok-outputs.ensures l)

pub returns-then-not-are_deposits : goal.returns-then-not-are_deposits
returns-then-not-are_deposits c = λ l.
    no_books l c.args.pots.now c.args.rows c.args.others.0 c.args.others.1 c.args.others.2 (c.in-Some.outputs, c.in-Some.accounts) c.in-Some-2.pools c.in-Some-3.proposals
    (rw c.in-Some.is at c.in_ok-outputs.ensures l) (rw c.in-Some-2.is at c.in_ok-pools.ensures) (rw c.in-Some-3.is at c.in_ok-proposals.ensures)
    (deposits_differ c.args.pots.now c.in-Some.accounts c.in-Some-2.pools c.args.rows.dreps c.in-Some-3.proposals c.are_deposits.result (c.are_deposits.ensures l) c.if-not-are_deposits.true)

pub returns : goal.returns
returns c = λ l.
    books_only l c.args.pots.now c.args.rows c.args.others.0 c.args.others.1 c.args.others.2 (c.in-Some.outputs, c.in-Some.accounts) c.in-Some-2.pools c.in-Some-3.proposals
    (rw c.in-Some.is at c.in_ok-outputs.ensures l) (rw c.in-Some-2.is at c.in_ok-pools.ensures) (rw c.in-Some-3.is at c.in_ok-proposals.ensures)
    (deposits_are c.args.pots.now c.in-Some.accounts c.in-Some-2.pools c.args.rows.dreps c.in-Some-3.proposals c.are_deposits.result (c.are_deposits.ensures l) c.if-not-are_deposits.false)
