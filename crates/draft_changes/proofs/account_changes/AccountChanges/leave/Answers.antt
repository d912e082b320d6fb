use Rattle.std.proofs.Common.{ℕ, ◌+◌, List, ap, arith, subst, ◌∙◌}
use Rattle.std.specs.Map.{keys_of}
use Rattle.gov_ids.specs.Derived.{credential_is}
use Rattle.gov_ids.specs.Orders.{credential_cmp}
use Rattle.gov_ids.specs.declared.Credential.{Credential}
use Rattle.maps.proofs.Kept.{keys_of-with_value}
use Rattle.maps.specs.Maps.{IsMap, with_value}
use Rattle.draft_changes.specs.ChangedAccounts.{ChangedAccounts, standing_of, with_leaving}
use Rattle.draft_changes.proofs.AccountChanging.{IsMap-mapped, standing_of-left, stands}
use Rattle.draft_changes.proofs.Numbers.{numbered_leave}
use Rattle.draft_changes.proofs.account_changes.AccountChanges.leave.Goals as goal

pub returns-in_err-insert-clause-in_order : goal.returns-in_err-insert-clause-in_order
returns-in_err-insert-clause-in_order c =
    subst (λ (a : ChangedAccounts). IsMap credential_cmp a.accounts) c.self.view_is (IsMap-mapped (stands c.self.inside.left.entries) credential_cmp c.self.inside.entries.entries c.self.invariant.entries_map)

pub returns-clause-in_order : goal.returns-clause-in_order
returns-clause-in_order c =
    subst (λ (a : ChangedAccounts). IsMap credential_cmp a.accounts) c.self.view_is (IsMap-mapped (stands c.self.inside.left.entries) credential_cmp c.self.inside.entries.entries c.self.invariant.entries_map)

pub invariant_of-self-2 : goal.invariant_of-self-2
invariant_of-self-2 c = numbered_leave c.self.inside.changes c.self.inside.left.entries c.self.inside.entries.entries c.self.invariant c.args.c c.insert.new.self.entries (c.in_ok-insert.ensures.entries ∙ (λ i. with_value (credential_is i) c.args.c (c.self.inside.changes + 1) c.self.inside.left.entries))

pub returns-clause-ok : goal.returns-clause-ok
returns-clause-ok c =
    let a = c.self.inside in
    let stands = ap (λ (es : List (Credential × ℕ)). standing_of es a.entries.entries) (c.in_ok-insert.ensures.entries ∙ (λ i. with_value (credential_is i) c.args.c (c.self.inside.changes + 1) c.self.inside.left.entries))
    ∙ standing_of-left c.args.c (a.changes + 1) a.left.entries a.entries.entries c.self.invariant.entries_map (λ q w e. omega (arith, c.self.invariant.written q w e)) in
    let names = ap (λ (es : List (Credential × ℕ)). keys_of es) (c.in_ok-insert.ensures.entries ∙ (λ i. with_value (credential_is i) c.args.c (c.self.inside.changes + 1) c.self.inside.left.entries)) ∙ keys_of-with_value credential_cmp c.args.c (a.changes + 1) a.left.entries in
    (λ i. record { accounts = stands i; left = names i; changes = a.changes + 1 })
    ∙ ap (λ (x : ChangedAccounts). with_leaving c.args.c x) c.self.view_is
