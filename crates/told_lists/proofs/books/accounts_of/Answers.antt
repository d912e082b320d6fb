use Rattle.std.proofs.Common.{◌≡◌, ◌==◌, true, ap, sym, ◌∙◌, subst, Some, None}
use Rattle.std.proofs.lemmas.Bool.{eq-eqb, eqb-true, false≢true}
use Rattle.gov_ids.specs.Orders.{credential_cmp}
use Rattle.text_forms.specs.Ids.{is_map}
use Rattle.account_rows.specs.Shown.{entries_shown}
use Rattle.shown_lists.specs.Only.{IsOnly}
use Rattle.told_lists.specs.Parts.{AreAccounts}
use Rattle.told_lists.proofs.BookParts.{Accounts, accounts_beside, balance_in}
use Rattle.told_lists.proofs.Found.{kind_of, none_first, none_passing, one_passing}
use Rattle.told_lists.proofs.books.accounts_of.Goals as goal

pub returns-in_default : goal.returns-in_default
returns-in_default c = λ l. none_first (AreAccounts c.args.rewards) (λ x k. k.in_order) (accounts_beside l (λ es. is_map credential_cmp es ≡ true) None c.as_slice.ensures c.as_slice-2.ensures (rw c.in_default.is at c.in_ok-accounts.ensures l))

pub returns-then-not-holds_rewards : goal.returns-then-not-holds_rewards
returns-then-not-holds_rewards c = λ l.
    none_passing (AreAccounts c.args.rewards) (λ x k. k.in_order)
    (accounts_beside l (λ es. is_map credential_cmp es ≡ true) (Some c.in-Some.accounts.items) c.as_slice.ensures c.as_slice-2.ensures (rw c.in-Some.is at c.in_ok-accounts.ensures l))
    (λ k. false≢true (sym c.if-not-holds_rewards.true ∙ c.holds_rewards.ensures ∙ ap (λ (es : Accounts). balance_in es == c.args.rewards) c.as_slice-3.ensures.value ∙ eq-eqb _ _ k.balances))

pub returns : goal.returns
returns c = λ l.
    let only = accounts_beside l (λ es. is_map credential_cmp es ≡ true) (Some c.in-Some.accounts.items) c.as_slice.ensures c.as_slice-2.ensures (rw c.in-Some.is at c.in_ok-accounts.ensures l) in
    subst (λ (es : Accounts). IsOnly (AreAccounts c.args.rewards) (entries_shown l c.args.outputs.now) c.args.entries (Some es)) (sym c.from_vec.ensures)
    (one_passing (AreAccounts c.args.rewards) (λ x k. k.in_order) only (record {
      in_order = kind_of only;
      balances = eqb-true (balance_in c.in-Some.accounts.items) c.args.rewards (ap (λ (es : Accounts). balance_in es == c.args.rewards) (sym c.as_slice-3.ensures.value) ∙ sym c.holds_rewards.ensures ∙ c.if-not-holds_rewards.false);
    }))
