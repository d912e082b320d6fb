use Rattle.std.proofs.Common.{ap, ◌∙◌}
use Rattle.gov_ids.specs.Orders.{credential_cmp}
use Rattle.gov_ids.specs.Derived.{credential_is}
use Rattle.maps.specs.Replaced.{with_option}
use Rattle.accounts.specs.Accounts.{Accounts}
use Rattle.accounts.proofs.AccountBook.note_first.Goals as goal

pub returns-clause-ok : goal.returns-clause-ok
returns-clause-ok c =
    let view : Accounts = c.self.inside.view in
    c.in_ok-note_first.ensures.ok ∙ (λ i. record view { frozen = with_option (credential_is i) c.args.c c.args.first view.frozen })
    ∙ ap (λ (a : Accounts). record a { frozen = with_option credential_cmp c.args.c c.args.first a.frozen }) c.self.view_is
