use Rattle.told_lists.proofs.BookParts.{held_only, no_accounts}
use Rattle.told_lists.proofs.books.held_of.Goals as goal

pub returns-in_default-2 : goal.returns-in_default-2
returns-in_default-2 c = λ l. no_accounts l c.args.pots.now c.args.outputs c.args.entries c.in-Some.outputs (rw c.in-Some.is at c.in_ok-outputs.ensures) (rw c.in_default-2.is at c.in_ok-accounts.ensures l)

pub returns : goal.returns
returns c = λ l.
    held_only l c.args.pots.now c.args.outputs c.args.entries c.in-Some.outputs (rw c.in-Some.is at c.in_ok-outputs.ensures) c.in-Some-2.accounts (rw c.in-Some-2.is at c.in_ok-accounts.ensures l)
