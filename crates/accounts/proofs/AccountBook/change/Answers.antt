use Rattle.std.proofs.Common.{Option, ap, ◌∙◌}
use Rattle.gov_ids.specs.Derived.{credential_is}
use Rattle.gov_ids.specs.Orders.{credential_cmp}
use Rattle.book_records.specs.declared.Entry.{Entry}
use Rattle.maps.specs.Maps.{value_at}
use Rattle.maps.specs.Replaced.{with_option}
use Rattle.accounts.specs.Accounts.{Accounts}
use Rattle.accounts.proofs.AccountBook.change.Goals as goal

pub returns-clause-ok : goal.returns-clause-ok
returns-clause-ok g c =
    let view : Accounts = c.self.inside.view in
    let after : Option Entry → Option Entry = g.S.Follower.value_after c.args.by.now in
    c.in_ok-before.ensures.ok
    ∙ (λ i. record view { live = with_option (credential_is i) c.args.c (after (value_at (credential_is i) view.live c.args.c)) view.live })
    ∙ ap (λ (a : Accounts). record a { live = with_option credential_cmp c.args.c (after (value_at credential_cmp a.live c.args.c)) a.live }) c.self.view_is
