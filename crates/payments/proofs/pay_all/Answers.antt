use Rattle.std.proofs.Common.{arith}
use Rattle.stake_book.specs.Stakes.{accounts_of}
use Rattle.payments.proofs.Crediting.{all_parted}
use Rattle.payments.proofs.pay_all.Goals as goal

pub pay_registered-requires : goal.pay_registered-requires
pay_registered-requires c = record { room = omega (arith, c.requires.room, all_parted (accounts_of c.args.stake) c.args.payments.now) }

pub overflow_sub-result : goal.overflow_sub-result
overflow_sub-result c = omega (arith, c.all_amounts-all.ensures, c.in_ok-stake.ensures.paid, all_parted (accounts_of c.args.stake) c.args.payments.now)

pub returns-clause-unpaid : goal.returns-clause-unpaid
returns-clause-unpaid c = omega (arith, c.all_amounts-all.ensures, c.in_ok-stake.ensures.paid, all_parted (accounts_of c.args.stake) c.args.payments.now)
