use Rattle.std.proofs.Common.{ap, arith}
use Rattle.gov_actions.specs.declared.state.EnactState.{EnactState}
use Rattle.stake_book.specs.Stakes.{accounts_of}
use Rattle.payments.proofs.Crediting.{all_parted}
use Rattle.payments.proofs.paid.paid_out.Goals as goal

pub overflow_add-treasury : goal.overflow_add-treasury
overflow_add-treasury c =
    omega (
      arith,
      ap (λ (s : EnactState). s.treasury) c.get.ensures,
      c.in_ok-stake.ensures.unpaid,
      all_parted (accounts_of c.args.stake) c.args.payments.now,
      c.requires.fits,
    )
