use Rattle.std.proofs.Common.{◌≡◌, ℕ, Option, Some, ap, sym, ◌∙◌}
use Rattle.std.specs.Prelude.{nat_lt}
use Rattle.gov_ids.specs.Derived.{credential_is}
use Rattle.gov_ids.specs.declared.Drep.{Drep}
use Rattle.gov_ids.specs.declared.Drep.TheVariants as drep
use Rattle.maps.specs.Maps.{value_at}
use Rattle.maps.specs.Words.{some_and}
use Rattle.draft_changes.specs.ChangedAccounts.{has_left_after}
use Rattle.draft_changes.proofs.account_changes.has_left_after.Goals as goal

pub returns-in-Some : goal.returns-in-Some
returns-in-Some c =
    let left = c.args.left.now.entries in
    let inner : c.in-Some-Registered.field-0 ≡ drep.Registered c.in-Some-Registered.c = rw c.in-Some-Registered.is at c.in-Some-Registered.field-0-is in
    ap (λ (o : Option ℕ). some_and (nat_lt c.args.number) o) (c.in-Some.ensures.value ∙ (λ i. value_at (credential_is i) left c.in-Some-Registered.c))
    ∙ ap (λ (d : Option Drep). has_left_after left c.args.number d) (sym (c.in-Some-Registered.is ∙ ap Some inner))

pub returns-in-None : goal.returns-in-None
returns-in-None c =
    let left = c.args.left.now.entries in
    let inner : c.in-Some-Registered.field-0 ≡ drep.Registered c.in-Some-Registered.c = rw c.in-Some-Registered.is at c.in-Some-Registered.field-0-is in
    ap (λ (o : Option ℕ). some_and (nat_lt c.args.number) o) (c.in-None.ensures.value ∙ (λ i. value_at (credential_is i) left c.in-Some-Registered.c))
    ∙ ap (λ (d : Option Drep). has_left_after left c.args.number d) (sym (c.in-Some-Registered.is ∙ ap Some inner))
