-- The books that lines show, from their lists.
use Rattle.std.proofs.Common.{◌≡◌, ℕ, ◌==◌, Bool, true, false, List, [], ◌∷◌, Option, Some, None, map, refl, ap, sym, ◌∙◌, subst}
use Rattle.std.specs.List.{list_all}
use Rattle.std.proofs.lemmas.Bool.{eq-eqb, eqb-true, false≢true}
use Rattle.maps.specs.Maps.{sum_values}
use Rattle.gov_ids.specs.declared.ActionId.{ActionId}
use Rattle.gov_ids.specs.declared.Address.{Address}
use Rattle.gov_ids.specs.declared.assets.AssetId.{AssetId}
use Rattle.gov_ids.specs.declared.Credential.{Credential}
use Rattle.gov_ids.specs.declared.OutRef.{OutRef}
use Rattle.gov_ids.specs.declared.PoolId.{PoolId}
use Rattle.gov_ids.specs.declared.TxId.{TxId}
use Rattle.book_records.specs.declared.DrepState.{DrepState}
use Rattle.book_records.specs.declared.Entry.{Entry}
use Rattle.book_records.specs.declared.Output.{Output}
use Rattle.book_records.specs.declared.pool.Pool.{Pool}
use Rattle.book_records.specs.declared.Registered.{Registered}
use Rattle.gov_actions.specs.declared.action.Action.{Action}
use Rattle.gov_actions.specs.declared.action.Proposal.{Proposal}
use Rattle.gov_actions.specs.declared.state.HotState.{HotState}
use Rattle.text_forms.specs.of_ledger_model.Ledger.{Ledger}
use Rattle.tx_records.specs.declared.report.Pots.{Pots}
use Rattle.resume_checks.specs.Sums.{deposits_in}
use Rattle.state_lists.specs.declared.lists.BookLists.{BookLists}
use Rattle.account_rows.specs.Shown.{entries_shown}
use Rattle.proposal_rows.specs.Rows.{all_rows}
use Rattle.checkpoint_lists.specs.declared.gathered.Books.{Books}
use Rattle.checkpoint_lists.specs.Shown.{output_row, pool_row}
use Rattle.shown_lists.specs.Only.{IsOnly}
use Rattle.shown_lists.proofs.Present.{only_none}
use Rattle.told_lists.specs.Parts.{AreAccounts, AreBooks, AreHeld, AreOutputs, AreProposed, Held, books_shown, held_shown}
use Rattle.told_lists.proofs.Found.{kind_of, none_of, only_one, same_of, shows_of}

abbrev pub Pools : Type 0
Pools = List (PoolId × Pool)

-- any pools
abbrev pub IsAny : Pools → Type 0
IsAny ps = Unit {0}

-- each item has no form
pub any_form : {A : Type 0} (xs : List A) → list_all (λ (x : A). true) xs ≡ true
any_form [] = refl
any_form (x ∷ xs) = any_form xs

abbrev Outputs : Type 0
Outputs = List (OutRef × Output)

abbrev pub Accounts : Type 0
Accounts = List (Credential × Registered)

-- the balances of accounts
abbrev pub balance_in : Accounts → ℕ
balance_in accounts = sum_values (λ (r : Registered). r.rewards) accounts

abbrev Entries : Type 0
Entries = List (Credential × Entry)

-- beside the same outputs, of the same entries
pub accounts_beside : (l : Ledger) (is_kind : Accounts → Type 0) (found : Option Accounts) {os outputs : Outputs} {es entries : Entries} → os ≡ outputs → es ≡ entries
    → IsOnly is_kind (entries_shown l os) es found → IsOnly is_kind (entries_shown l outputs) entries found
accounts_beside l is_kind found same_os same_es only = subst (λ (t : Outputs × Entries). IsOnly is_kind (entries_shown l t.0) t.1 found) (λ i. (same_os i, same_es i)) only

-- ---- outputs and accounts

module _ (l : Ledger) (pots : Pots) (rows : List ((OutRef × (Address × ℕ)) × List (AssetId × ℕ))) (entries : Entries) (outputs : Outputs) (of : IsOnly (AreOutputs pots.outputs) (map output_row) rows (Some outputs)) where
  pub no_accounts : IsOnly (AreAccounts pots.rewards) (entries_shown l outputs) entries None → IsOnly (AreHeld pots) (held_shown l) (rows, entries) None
  no_accounts only =
      only_none (AreHeld pots) (held_shown l) (rows, entries)
      (λ x k e. none_of only x.1 k.accounts (ap (λ (os : Outputs). entries_shown l os x.1) (same_of of x.0 k.outputs (λ i. (e i).0)) ∙ (λ i. (e i).1)))

  pub held_only : (accounts : Accounts) → IsOnly (AreAccounts pots.rewards) (entries_shown l outputs) entries (Some accounts) → IsOnly (AreHeld pots) (held_shown l) (rows, entries) (Some (outputs, accounts))
  held_only accounts only =
      only_one (AreHeld pots) (held_shown l) (rows, entries) (outputs, accounts) (record { outputs = kind_of of; accounts = kind_of only }) (λ i. (shows_of of i, shows_of only i))
      (λ x k e.
      let same : outputs ≡ x.0 = same_of of x.0 k.outputs (λ i. (e i).0) in
      let accounts_same : accounts ≡ x.1 = same_of only x.1 k.accounts (ap (λ (os : Outputs). entries_shown l os x.1) same ∙ (λ i. (e i).1)) in
      λ i. (same i, accounts_same i))

-- ---- all books

-- the deposits are not those that the pots say, or they are
module _ (pots : Pots) (accounts : Accounts) (pools : Pools) (dreps : List (Credential × DrepState)) (ps : List Proposal) (holds : Bool) (is : holds ≡ (deposits_in accounts pools dreps ps == pots.deposits)) where
  abbrev deposits : ℕ
  deposits = deposits_in accounts pools dreps ps

  pub deposits_are : holds ≡ true → deposits ≡ pots.deposits
  deposits_are h = eqb-true deposits pots.deposits (sym is ∙ h)

  pub deposits_differ : holds ≡ false → deposits ≡ pots.deposits → ⊥
  deposits_differ h same = false≢true (sym h ∙ is ∙ eq-eqb deposits pots.deposits same)

module _ (l : Ledger) (pots : Pots) (rows : Books) (actions : List (ActionId × Action)) (used : List TxId) (hot : List (Credential × HotState)) where
  abbrev Only : Option BookLists → Type 0
  Only found = IsOnly (AreBooks pots) (books_shown l) (rows, actions, used, hot) found

  pub no_held : IsOnly (AreHeld pots) (held_shown l) (rows.outputs, rows.entries) None → Only None
  no_held only = only_none (AreBooks pots) (books_shown l) (rows, actions, used, hot) (λ x k e. none_of only (x.outputs, x.accounts) k.held (λ i. ((e i).0.outputs, (e i).0.entries)))

  pub no_pools : IsOnly IsAny (map pool_row) rows.pools None → Only None
  no_pools only = only_none (AreBooks pots) (books_shown l) (rows, actions, used, hot) (λ x k e. none_of only x.pools tt (λ i. (e i).0.pools))

  pub no_proposals : IsOnly AreProposed all_rows (rows.proposals, actions) None → Only None
  no_proposals only = only_none (AreBooks pots) (books_shown l) (rows, actions, used, hot) (λ x k e. none_of only x.proposals k.proposed (λ i. ((e i).0.proposals, (e i).1)))

  module _ (held : Held) (pools : Pools) (ps : List Proposal)
      (of_held : IsOnly (AreHeld pots) (held_shown l) (rows.outputs, rows.entries) (Some held)) (of_pools : IsOnly IsAny (map pool_row) rows.pools (Some pools)) (of_ps : IsOnly AreProposed all_rows (rows.proposals, actions) (Some ps)) where
    abbrev made : BookLists
    made = record { outputs = held.0; used = used; accounts = held.1; pools = pools; dreps = rows.dreps; hot = hot; proposals = ps }

    same_books : (x : BookLists) → AreBooks pots x → books_shown l x ≡ (rows, actions, used, hot) → made ≡ x
    same_books x k e =
        let back : (rows, actions, used, hot) ≡ books_shown l x = sym e in
        let held_same : held ≡ (x.outputs, x.accounts) = same_of of_held (x.outputs, x.accounts) k.held (λ i. ((e i).0.outputs, (e i).0.entries)) in
        let pools_same : pools ≡ x.pools = same_of of_pools x.pools tt (λ i. (e i).0.pools) in
        let ps_same : ps ≡ x.proposals = same_of of_ps x.proposals k.proposed (λ i. ((e i).0.proposals, (e i).1)) in
        λ i. record {
          outputs = (held_same i).0;
          used = (back i).2;
          accounts = (held_same i).1;
          pools = pools_same i;
          dreps = (back i).0.dreps;
          hot = (back i).3;
          proposals = ps_same i;
        }

    pub books_only : deposits_in held.1 pools rows.dreps ps ≡ pots.deposits → Only (Some made)
    books_only deposits =
        only_one (AreBooks pots) (books_shown l) (rows, actions, used, hot) made (record { held = kind_of of_held; proposed = kind_of of_ps; deposits = deposits })
        (λ i. (
          record {
            dreps = rows.dreps;
            pools = shows_of of_pools i;
            entries = (shows_of of_held i).1;
            outputs = (shows_of of_held i).0;
            proposals = (shows_of of_ps i).0;
          },
          (shows_of of_ps i).1,
          used,
          hot,
        )) same_books

    pub no_books : (deposits_in held.1 pools rows.dreps ps ≡ pots.deposits → ⊥) → Only None
    no_books not =
        only_none (AreBooks pots) (books_shown l) (rows, actions, used, hot)
        (λ x k e. not ((λ i. let b = same_books x k e i in deposits_in b.accounts b.pools b.dreps b.proposals) ∙ k.deposits))
