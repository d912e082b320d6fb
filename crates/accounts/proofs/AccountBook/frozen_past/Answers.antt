use Rattle.std.proofs.Common.{option_map, ap, ◌∙◌}
use Rattle.gov_ids.specs.Orders.{credential_cmp}
use Rattle.gov_ids.specs.Derived.{credential_is}
use Rattle.view_map.specs.View.{frozen_of}
use Rattle.view_map.specs.Walk.{entries_past}
use Rattle.accounts.specs.Accounts.{Accounts}
use Rattle.accounts.proofs.AccountBook.frozen_past.Goals as goal

pub returns : goal.returns
returns c =
    c.frozen_past.ensures ∙ (λ i. entries_past (credential_is i) (option_map (λ k. k.now) c.args.after) (frozen_of (credential_is i) c.self.inside.view))
    ∙ ap (λ (a : Accounts). entries_past credential_cmp (option_map (λ k. k.now) c.args.after) (frozen_of credential_cmp a)) c.self.view_is
