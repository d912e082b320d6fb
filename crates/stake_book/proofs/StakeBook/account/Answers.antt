use Rattle.std.proofs.Common.{ap, sym, ◌∙◌}
use Rattle.gov_ids.specs.Orders.{credential_cmp}
use Rattle.book_records.specs.declared.Entry.{Entry}
use Rattle.maps.specs.Maps.{value_at}
use Rattle.stake_book.specs.Stakes.{Stakes, accounts_of}
use Rattle.stake_book.proofs.Registrations.{value_at-registrations}
use Rattle.stake_book.proofs.StakeBook.account.Goals as goal

pub returns-clause-value : goal.returns-clause-value
returns-clause-value c =
    ap (λ (e : Entry). e.registered) c.entry_of.ensures.value
    ∙ sym (value_at-registrations c.self.inside.accounts.live c.args.c.now c.self.invariant.live)
    ∙ ap (λ (s : Stakes). value_at credential_cmp (accounts_of s) c.args.c.now) c.self.view_is
