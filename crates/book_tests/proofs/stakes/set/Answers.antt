use Rattle.std.proofs.Common.{arith}
use Rattle.stake_book.specs.Stakes.{accounts_of}
use Rattle.book_tests.proofs.Rooms.{balances_within}
use Rattle.book_tests.proofs.stakes.set.Goals as goal

pub set_account-requires : goal.set_account-requires
set_account-requires g c =
    let within = balances_within c.args.c c.args.to (accounts_of c.args.book.now) c.outputs.ensures.kept.in_order in
    record {
      room = grind (arith, within, c.total.ensures.sum, c.balances.ensures.sum, c.map_or.ensures);
    }
