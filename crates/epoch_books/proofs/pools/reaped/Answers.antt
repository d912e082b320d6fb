use Rattle.std.proofs.Common.{◌+◌, ◌<◌, ◌^◌, List, sym, subst, ◌∙◌}
use Rattle.cert_pool.specs.declared.Reaped.{Reaped}
use Rattle.payments.specs.Amounts.{all_amounts}
use Rattle.stake_book.specs.Stakes.{HasRoom}
use Rattle.epoch_books.specs.Retirements.{AreRefunded, refunds_of}
use Rattle.epoch_books.proofs.pools.reaped.Goals as goal

pub refunded-requires : goal.refunded-requires
refunded-requires c =
    let gone = c.as_slice.ensures.value ∙ c.in_ok-reaped.ensures.reaped in
    record {
      room = subst (λ (rs : List Reaped). HasRoom (all_amounts (refunds_of rs)) c.args.stake) (sym gone) c.requires.room;
      fits = subst (λ (rs : List Reaped). c.args.state.treasury + all_amounts (refunds_of rs) < 2 ^ 64) (sym gone) c.requires.fits;
    }

pub returns-clause-refunded : goal.returns-clause-refunded
returns-clause-refunded c =
    subst (λ (rs : List Reaped). AreRefunded rs c.args.stake c.args.state c.in_ok-stake.stake c.in_ok-stake.state)
    (c.as_slice.ensures.value ∙ c.in_ok-reaped.ensures.reaped) c.in_ok-stake.ensures.refunded
