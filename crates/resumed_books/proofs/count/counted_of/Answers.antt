use Rattle.std.proofs.Common.{arith}
use Rattle.resumed_books.proofs.Counted.{has_frozen}
use Rattle.resumed_books.proofs.count.counted_of.Goals as goal

pub deposits_by_account-requires : goal.deposits_by_account-requires
deposits_by_account-requires c = omega (arith, c.requires.room)

pub after-requires-clause-within : goal.after-requires-clause-within
after-requires-clause-within c = omega (arith, c.in_ok-counting.ensures.total, c.requires.within)

pub after-requires-clause-counts : goal.after-requires-clause-counts
after-requires-clause-counts c = c.in_ok-counting.ensures.counts_in (omega (arith, c.in_ok-deposits.ensures.total, c.requires.room))

pub returns-clause-counts : goal.returns-clause-counts
returns-clause-counts c = λ f h.
    c.after.ensures.counts f h.entries
    (c.in_ok-counting.ensures.counts f (has_frozen f c.args.book.now c.in_ok-dreps.dreps c.in_ok-deposits.deposits c.args.dreps.now c.args.proposals.now h c.in_ok-dreps.ensures c.in_ok-deposits.ensures.amounts
    (omega (arith, c.in_ok-deposits.ensures.total, c.requires.room))))
