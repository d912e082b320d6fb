use Rattle.std.proofs.Common.{length, ap, arith, sym, ◌∙◌}
use Rattle.accounts.specs.Accounts.{Accounts}
use Rattle.drep_pulser.specs.Facts.{held_by}
use Rattle.gov_ids.specs.Orders.{credential_cmp}
use Rattle.gov_model.specs.Proposals.{deposits_of}
use Rattle.view_map.specs.View.{frozen_of}
use Rattle.resumed_ledger.proofs.books.held_of.Goals as goal

pub counted_of-requires : goal.counted_of-requires
counted_of-requires c =
    let book = c.book.ensures.value in
    record {
      some = c.requires.some;
      few = c.requires.few;
      room = omega (arith, c.requires.room, ap (λ (a : Accounts). held_by (frozen_of credential_cmp a)) book, ap deposits_of c.as_slice-proposals.ensures);
      within = omega (arith, c.requires.counted, ap (λ (a : Accounts). length (frozen_of credential_cmp a)) book);
    }

pub returns-clause-counts : goal.returns-clause-counts
returns-clause-counts c = λ f h.
    c.in_ok-pulser.ensures.counts f (record {
      entries = h.entries ∙ sym (ap (λ (a : Accounts). frozen_of credential_cmp a) c.book.ensures.value);
      dreps = h.dreps ∙ sym c.as_slice-dreps.ensures;
      proposals = h.proposals ∙ sym c.as_slice-proposals.ensures;
    })
