-- The live state that lines show, from its parts.
use Rattle.std.proofs.Common.{◌≡◌, List, Option, Some, None, sym, ◌∙◌, subst}
use Rattle.gov_ids.specs.declared.ActionId.{ActionId}
use Rattle.gov_ids.specs.declared.Credential.{Credential}
use Rattle.gov_ids.specs.declared.TxId.{TxId}
use Rattle.gov_actions.specs.declared.action.Action.{Action}
use Rattle.gov_actions.specs.declared.state.HotState.{HotState}
use Rattle.text_forms.specs.of_ledger_model.Ledger.{Ledger}
use Rattle.pparams.specs.declared.Params.{Params}
use Rattle.tx_records.specs.declared.report.Pots.{Pots}
use Rattle.state_lists.specs.declared.lists.BookLists.{BookLists}
use Rattle.checkpoint_lists.specs.declared.gathered.Books.{Books}
use Rattle.checkpoint_lists.specs.declared.gathered.Governance.{Governance}
use Rattle.shown_lists.specs.Only.{IsOnly}
use Rattle.shown_lists.proofs.Present.{only_none}
use Rattle.told_lists.specs.declared.governance.Governed.{Governed}
use Rattle.told_lists.specs.Parts.{AreBooks, IsGoverned, IsLive, Live, books_shown, governed_shown, ledger_of_live, live_shown}
use Rattle.told_lists.specs.Parts.{Governance as Parts}
use Rattle.told_lists.proofs.Found.{kind_of, none_of, only_one, same_of, shows_of}

-- with the same cold keys
governed_by : (g : Governed) (keys hot : List (Credential × HotState)) → hot ≡ keys → IsGoverned (g, keys) → IsGoverned (g, hot)
governed_by g keys hot same is = subst (λ (h : List (Credential × HotState)). IsGoverned (g, h)) (sym same) is

module _ (pots : Pots) (g : Governance) (params : Params) (rows : Books × List (ActionId × Action) × List TxId) where
  abbrev Only : Option Live → Type 0
  Only found = IsOnly (IsLive pots) (live_shown pots) ((g, params, pots.treasury), rows) found

  pub no_governed : IsOnly IsGoverned governed_shown (g, params, pots.treasury) None → Only None
  no_governed only = only_none (IsLive pots) (live_shown pots) ((g, params, pots.treasury), rows) (λ x k e. none_of only (x.0, x.1.hot) k.governed (λ i. (e i).0))

  module _ (governed : Parts) (of : IsOnly IsGoverned governed_shown (g, params, pots.treasury) (Some governed)) where
    same_governed : (x : Live) → IsLive pots x → live_shown pots x ≡ ((g, params, pots.treasury), rows) → governed ≡ (x.0, x.1.hot)
    same_governed x k e = same_of of (x.0, x.1.hot) k.governed (λ i. (e i).0)

    -- with all cold keys
    said : (x : Live) → IsLive pots x → live_shown pots x ≡ ((g, params, pots.treasury), rows) → books_shown (ledger_of_live pots x) x.1 ≡ (rows.0, rows.1, rows.2, governed.1)
    said x k e = λ i. ((e i).1.0, (e i).1.1, (e i).1.2, (sym (same_governed x k e) i).1)

    pub no_books : ((l : Ledger) → IsOnly (AreBooks pots) (books_shown l) (rows.0, rows.1, rows.2, governed.1) None) → Only None
    no_books only = only_none (IsLive pots) (live_shown pots) ((g, params, pots.treasury), rows) (λ x k e. none_of (only (ledger_of_live pots x)) x.1 k.books (said x k e))

    pub live_only : (b : BookLists) → ((l : Ledger) → IsOnly (AreBooks pots) (books_shown l) (rows.0, rows.1, rows.2, governed.1) (Some b)) → Only (Some (governed.0, b))
    live_only b only =
        let shows : books_shown (ledger_of_live pots (governed.0, b)) b ≡ (rows.0, rows.1, rows.2, governed.1) = shows_of (only (ledger_of_live pots (governed.0, b))) in
        let kind : AreBooks pots b = kind_of (only (ledger_of_live pots (governed.0, b))) in
        let hot : b.hot ≡ governed.1 = λ i. (shows i).3 in
        only_one (IsLive pots) (live_shown pots) ((g, params, pots.treasury), rows) (governed.0, b) (record { governed = governed_by governed.0 governed.1 b.hot hot (kind_of of); books = kind })
        ((λ i. (governed_shown (governed.0, hot i), ((shows i).0, (shows i).1, (shows i).2))) ∙ (λ i. (shows_of of i, rows)))
        (λ x k e.
        let parts : governed ≡ (x.0, x.1.hot) = same_governed x k e in
        let books : b ≡ x.1 = same_of (only (ledger_of_live pots x)) x.1 k.books (said x k e) in
        λ i. ((parts i).0, books i))
