use Rattle.std.proofs.Common.{◌≡◌, IfOk, List, ap, sym, subst, ◌∙◌}
use Rattle.std.specs.Map.{keys_of}
use Rattle.gov_ids.specs.declared.Credential.{Credential}
use Rattle.gov_ids.specs.Orders.{credential_cmp}
use Rattle.maps.specs.Maps.{IsMap}
use Rattle.draft_changes.specs.ChangedAccounts.{ChangedAccounts}
use Rattle.draft_changes.proofs.AccountChanging.{IsMap-mapped, keys_of-mapped, stands}
use Rattle.draft_changes.proofs.account_changes.AccountChanges.changed.Goals as goal

pub returns-clause-in_order : goal.returns-clause-in_order
returns-clause-in_order c =
    subst (λ (a : ChangedAccounts). IsMap credential_cmp a.accounts) c.self.view_is (IsMap-mapped (stands c.self.inside.left.entries) credential_cmp c.self.inside.entries.entries c.self.invariant.entries_map)

pub returns-clause-names : goal.returns-clause-names
returns-clause-names c =
    let names : keys_of c.self.inside.entries.entries ≡ keys_of c.args.self.now.accounts =
    sym (keys_of-mapped (stands c.self.inside.left.entries) c.self.inside.entries.entries) ∙ ap (λ (a : ChangedAccounts). keys_of a.accounts) c.self.view_is in
    let Lists : List Credential → Type 0 = λ ks. IfOk c.names_in.result (λ l. l.items ≡ ks) in
    subst Lists names c.names_in.ensures
