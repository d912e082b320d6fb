use Rattle.std.proofs.Common.{◌≡◌, List, Some, true, false, sym, subst, ◌∙◌}
use Rattle.gov_ids.specs.declared.Credential.{Credential}
use Rattle.gov_ids.specs.Orders.{credential_cmp}
use Rattle.book_records.specs.declared.Registered.{Registered}
use Rattle.shown_lists.specs.Only.{IsOnly}
use Rattle.text_forms.specs.Ids.{is_map}
use Rattle.account_rows.specs.Shown.{entries_shown}
use Rattle.account_rows.proofs.Shown.{accounts_found}
use Rattle.account_rows.proofs.accounts.accounts_of.Goals as goal

pub returns-then-not-branch : goal.returns-then-not-branch
returns-then-not-branch c = λ l. accounts_found l c.args.outputs.now c.args.entries.now false (sym c.if-not-branch.true ∙ c.in_ok-are_entries.ensures)

pub returns : goal.returns
returns c = λ l.
    subst (λ (a : List (Credential × Registered)). IsOnly (λ (x : List (Credential × Registered)). is_map credential_cmp x ≡ true) (entries_shown l c.args.outputs.now) c.args.entries.now (Some a))
    (sym c.in_ok-accounts.ensures) (accounts_found l c.args.outputs.now c.args.entries.now true (sym c.if-not-branch.false ∙ c.in_ok-are_entries.ensures))
