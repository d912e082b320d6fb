use Rattle.std.proofs.Common.{length, ap, subst, ◌∙◌}
use Rattle.gov_ids.specs.Orders.{credential_cmp}
use Rattle.gov_ids.specs.Derived.{credential_is}
use Rattle.maps.specs.Maps.{IsMap}
use Rattle.view_map.specs.View.{frozen_of}
use Rattle.accounts.specs.Accounts.{Accounts}
use Rattle.accounts.proofs.AccountBook.frozen_len.Goals as goal

pub returns-clause-len : goal.returns-clause-len
returns-clause-len c =
    c.frozen_len.ensures.len ∙ (λ i. length (frozen_of (credential_is i) c.self.inside.view))
    ∙ ap (λ (a : Accounts). length (frozen_of credential_cmp a)) c.self.view_is

pub returns-clause-in_order : goal.returns-clause-in_order
returns-clause-in_order c =
    subst (λ (a : Accounts). IsMap credential_cmp (frozen_of credential_cmp a)) c.self.view_is
    (subst (λ cmp. IsMap cmp (frozen_of cmp c.self.inside.view)) credential_is c.frozen_len.ensures.in_order)
