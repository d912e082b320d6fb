use Rattle.std.proofs.Common.{List, Option, cond, option_map, unwrap_or, ap, subst, sym, ◌∙◌}
use Rattle.gov_ids.specs.declared.Credential.{Credential}
use Rattle.gov_ids.specs.Orders.{credential_cmp}
use Rattle.book_records.specs.declared.Registered.{Registered}
use Rattle.maps.specs.Maps.{IsMap, value_at}
use Rattle.book_records.specs.Delegations.{without_drep}
use Rattle.ledger_model.specs.Ledger.{account_at}
use Rattle.stake_book.specs.Stakes.{delegates_to_dreps}
use Rattle.live_ledger.specs.Drafts.{Drafted}
use Rattle.live_ledger.proofs.DraftChanging.{account_now, accounts_are_map}
use Rattle.live_ledger.proofs.draft.Draft.account.Goals as goal

pub returns-clause-value : goal.returns-clause-value
returns-clause-value c =
    let a = c.self.inside in
    let q = c.args.c.now in
    let before = c.account.ensures.value ∙ ap (λ (es : List (Credential × Registered)). value_at credential_cmp es q) c.stake.ensures.accounts in
    c.latest.ensures.value
    ∙ ap (λ (o : Option Registered). unwrap_or (value_at credential_cmp a.accounts.accounts q) (option_map (λ (r : Registered). cond (delegates_to_dreps a.accounts.left r) (without_drep r) r) o)) before
    ∙ sym (account_now a.start.now.ledger c.self.invariant.kept a.accounts a.pools.entries a.dreps a.hot.entries q c.latest.ensures.in_order)
    ∙ ap (λ (d : Drafted). account_at d.ledger q) c.self.view_is

pub returns-clause-map : goal.returns-clause-map
returns-clause-map c =
    let a = c.self.inside in
    subst (λ (d : Drafted). IsMap credential_cmp d.ledger.accounts) c.self.view_is (accounts_are_map a.start.now.ledger c.self.invariant.kept a.accounts a.pools.entries a.dreps a.hot.entries)
