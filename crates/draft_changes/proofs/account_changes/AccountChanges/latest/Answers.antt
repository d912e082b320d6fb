use Rattle.std.proofs.Common.{◌≡◌, Option, Some, None, cond, option_map, unwrap_or, ap, subst, sym, ◌∙◌}
use Rattle.gov_ids.specs.Derived.{credential_is}
use Rattle.gov_ids.specs.Orders.{credential_cmp}
use Rattle.book_records.specs.declared.Registered.{Registered}
use Rattle.book_records.specs.Delegations.{without_drep}
use Rattle.maps.specs.Maps.{IsMap, value_at}
use Rattle.stake_book.specs.Stakes.{delegates_to_dreps}
use Rattle.draft_changes.specs.ChangedAccounts.{ChangedAccounts}
use Rattle.draft_changes.specs.declared.account_changes.Written.{Written}
use Rattle.draft_changes.proofs.AccountChanging.{IsMap-mapped, standing_first, stands, value_at-mapped}
use Rattle.draft_changes.proofs.account_changes.AccountChanges.latest.Goals as goal

pub returns-in-Some-clause-in_order : goal.returns-in-Some-clause-in_order
returns-in-Some-clause-in_order c =
    subst (λ (a : ChangedAccounts). IsMap credential_cmp a.accounts) c.self.view_is (IsMap-mapped (stands c.self.inside.left.entries) credential_cmp c.self.inside.entries.entries c.self.invariant.entries_map)

pub returns-in-None-clause-in_order : goal.returns-in-None-clause-in_order
returns-in-None-clause-in_order c =
    subst (λ (a : ChangedAccounts). IsMap credential_cmp a.accounts) c.self.view_is (IsMap-mapped (stands c.self.inside.left.entries) credential_cmp c.self.inside.entries.entries c.self.invariant.entries_map)

-- the registration if there is no change: as it was before, without a delegation that ended
abbrev or_before : ChangedAccounts → Option (Option Registered) → Option Registered → Option Registered
or_before a o before = unwrap_or o (option_map (λ (r : Registered). cond (delegates_to_dreps a.left r) (without_drep r) r) before)

pub returns-in-Some-clause-value : goal.returns-in-Some-clause-value
returns-in-Some-clause-value c =
    let left = c.self.inside.left.entries in
    let entries = c.self.inside.entries.entries in
    let at : Some (stands left c.in-Some.written.now) ≡ value_at credential_cmp c.args.self.now.accounts c.args.c.now =
    ap (λ (o : Option Written). option_map (stands left) o) (c.in-Some.ensures.value ∙ (λ i. value_at (credential_is i) entries c.args.c.now))
    ∙ sym (value_at-mapped (stands left) credential_cmp entries c.args.c.now)
    ∙ ap (λ (a : ChangedAccounts). value_at credential_cmp a.accounts c.args.c.now) c.self.view_is in
    c.standing.ensures ∙ ap (λ (o : Option (Option Registered)). or_before c.args.self.now o c.args.before) at

pub returns-in-None-clause-value : goal.returns-in-None-clause-value
returns-in-None-clause-value c =
    let left = c.self.inside.left.entries in
    let entries = c.self.inside.entries.entries in
    let at : None ≡ value_at credential_cmp c.args.self.now.accounts c.args.c.now =
    ap (λ (o : Option Written). option_map (stands left) o) (c.in-None.ensures.value ∙ (λ i. value_at (credential_is i) entries c.args.c.now))
    ∙ sym (value_at-mapped (stands left) credential_cmp entries c.args.c.now)
    ∙ ap (λ (a : ChangedAccounts). value_at credential_cmp a.accounts c.args.c.now) c.self.view_is in
    c.standing-in-None.ensures ∙ standing_first left c.args.before c.self.invariant.after_start
    ∙ (λ i. or_before (c.self.view_is i) (at i) c.args.before)
