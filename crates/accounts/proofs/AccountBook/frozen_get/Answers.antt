use Rattle.std.proofs.Common.{ap, ◌∙◌}
use Rattle.gov_ids.specs.Orders.{credential_cmp}
use Rattle.gov_ids.specs.Derived.{credential_is}
use Rattle.maps.specs.Maps.{value_at}
use Rattle.view_map.specs.View.{frozen_of}
use Rattle.accounts.specs.Accounts.{Accounts}
use Rattle.accounts.proofs.AccountBook.frozen_get.Goals as goal

pub returns : goal.returns
returns c =
    c.frozen_get.ensures ∙ (λ i. value_at (credential_is i) (frozen_of (credential_is i) c.self.inside.view) c.args.c.now)
    ∙ ap (λ (a : Accounts). value_at credential_cmp (frozen_of credential_cmp a) c.args.c.now) c.self.view_is
