use Rattle.std.proofs.Common.{◌+◌, List, ap, arith, subst, ◌∙◌}
use Rattle.std.specs.Map.{keys_of}
use Rattle.gov_ids.specs.Derived.{credential_is}
use Rattle.gov_ids.specs.Orders.{credential_cmp}
use Rattle.gov_ids.specs.declared.Credential.{Credential}
use Rattle.maps.specs.Maps.{IsMap, with_value}
use Rattle.draft_changes.specs.ChangedAccounts.{ChangedAccounts, standing_of, with_change}
use Rattle.draft_changes.specs.declared.account_changes.Written.{Written}
use Rattle.draft_changes.proofs.AccountChanging.{IsMap-mapped, standing_of-set, stands}
use Rattle.draft_changes.proofs.Numbers.{numbered_set}
use Rattle.draft_changes.proofs.account_changes.AccountChanges.set.Goals as goal

pub returns-in_err-insert-clause-in_order : goal.returns-in_err-insert-clause-in_order
returns-in_err-insert-clause-in_order c =
    subst (λ (a : ChangedAccounts). IsMap credential_cmp a.accounts) c.self.view_is (IsMap-mapped (stands c.self.inside.left.entries) credential_cmp c.self.inside.entries.entries c.self.invariant.entries_map)

pub returns-clause-in_order : goal.returns-clause-in_order
returns-clause-in_order c =
    subst (λ (a : ChangedAccounts). IsMap credential_cmp a.accounts) c.self.view_is (IsMap-mapped (stands c.self.inside.left.entries) credential_cmp c.self.inside.entries.entries c.self.invariant.entries_map)

pub invariant_of-self-2 : goal.invariant_of-self-2
invariant_of-self-2 c =
    numbered_set c.self.inside.changes c.self.inside.left.entries c.self.inside.entries.entries c.self.invariant c.args.c (record { number = c.self.inside.changes + 1; to = c.args.to }) c.insert.new.self.entries (c.in_ok-insert.ensures.entries ∙ (λ i. with_value (credential_is i) c.args.c (record { number = c.self.inside.changes + 1; to = c.args.to }) c.self.inside.entries.entries)) (omega arith)

pub returns-clause-ok : goal.returns-clause-ok
returns-clause-ok c =
    let a = c.self.inside in
    let w : Written = record { number = a.changes + 1; to = c.args.to } in
    let stands = ap (λ (es : List (Credential × Written)). standing_of a.left.entries es) (c.in_ok-insert.ensures.entries ∙ (λ i. with_value (credential_is i) c.args.c (record { number = c.self.inside.changes + 1; to = c.args.to }) c.self.inside.entries.entries))
    ∙ standing_of-set c.args.c w a.left.entries a.entries.entries (λ q m e. omega (arith, c.self.invariant.leaving q m e)) in
    (λ i. record { accounts = stands i; left = keys_of a.left.entries; changes = a.changes + 1 })
    ∙ ap (λ (x : ChangedAccounts). with_change c.args.c c.args.to x) c.self.view_is
