use Rattle.std.proofs.Common.{option_map, ap, ◌∙◌}
use Rattle.gov_ids.specs.Orders.{credential_cmp}
use Rattle.gov_ids.specs.Derived.{credential_is}
use Rattle.maps.specs.Maps.{entry_after}
use Rattle.view_map.specs.View.{frozen_of}
use Rattle.accounts.specs.Accounts.{Accounts}
use Rattle.accounts.proofs.AccountBook.frozen_next.Goals as goal

pub returns : goal.returns
returns c =
    c.frozen_next.ensures ∙ (λ i. entry_after (credential_is i) (option_map (λ k. k.now) c.args.after) (frozen_of (credential_is i) c.self.inside.view))
    ∙ ap (λ (a : Accounts). entry_after credential_cmp (option_map (λ k. k.now) c.args.after) (frozen_of credential_cmp a)) c.self.view_is
