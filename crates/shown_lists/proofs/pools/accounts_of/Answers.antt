use Rattle.std.proofs.Common.{◌≡◌, true, List, subst, sym, ◌∙◌}
use Rattle.std.proofs.lemmas.Bool.{false≢true}
use Rattle.gov_ids.specs.declared.Account.{Account}
use Rattle.gov_ids.specs.declared.PoolId.{PoolId}
use Rattle.resume_checks.specs.Forms.{are_accounts_of}
use Rattle.shown_lists.specs.Shows.{pools_shown}
use Rattle.shown_lists.proofs.Accounts.{accounts_none, accounts_some}
use Rattle.shown_lists.proofs.pools.accounts_of.Goals.{else-are_pool_accounts-via-then-are_pool_accounts+else-are_shown, else-are_pool_accounts-via-else-are_pool_accounts}
use Rattle.shown_lists.proofs.pools.accounts_of.Goals as goal

abbrev Entries : Type 0
Entries = List (PoolId × Account)

pub returns-then-are_shown : goal.returns-then-are_shown
returns-then-are_shown c =
    accounts_some c.args.mark.now c.args.pools.now c.requires c.in_ok-accounts.accounts.items c.in_ok-accounts.ensures
    (subst (λ (h : Entries). are_accounts_of c.args.mark.now h ≡ true) c.as_slice.ensures.value (sym c.are_pool_accounts.ensures ∙ c.if-are_pool_accounts.true))
    (subst (λ (h : Entries). pools_shown c.args.mark.now h ≡ c.args.pools.now) c.as_slice-then-are_pool_accounts.ensures.value (c.are_shown.ensures.0 c.if-are_shown.true))

pub returns-else-are_pool_accounts : goal.returns-else-are_pool_accounts
returns-else-are_pool_accounts c =
    accounts_none c.args.mark.now c.args.pools.now c.requires c.in_ok-accounts.accounts.items c.in_ok-accounts.ensures
    (λ kind shown. elim c.else-are_pool_accounts.branch [
      | else-are_pool_accounts-via-then-are_pool_accounts+else-are_shown w ↦
          false≢true (sym w.if-are_shown.false ∙ w.are_shown.ensures.1 (subst (λ (h : Entries). pools_shown c.args.mark.now h ≡ c.args.pools.now) (sym w.as_slice-then-are_pool_accounts.ensures.value) shown))
      | else-are_pool_accounts-via-else-are_pool_accounts w ↦
          false≢true (sym w.if-are_pool_accounts.false ∙ c.are_pool_accounts.ensures ∙ subst (λ (h : Entries). are_accounts_of c.args.mark.now h ≡ true) (sym c.as_slice.ensures.value) kind)
    ])
