-- Ledgers and snapshots of plain lists, and the form of their items. (Own)
use Rattle.std.specs.Prelude.{ℕ, Bool, ◌&&◌, List}
use Rattle.std.specs.List.{list_all}
use Rattle.maps.specs.Maps.{has_key}
use Rattle.gov_ids.specs.declared.Account.{Account}
use Rattle.gov_ids.specs.declared.PoolId.{PoolId}
use Rattle.gov_ids.specs.Orders.{credential_cmp, pool_cmp}
use Rattle.gov_model.specs.Snapshot.{Snapshot}
use Rattle.ledger_model.specs.Ledger.{Ledger}
use Rattle.text_forms.specs.Actions.{is_proposal}
use Rattle.text_forms.specs.Books as books
use Rattle.text_forms.specs.Ids.{is_map, is_tx_id}
use Rattle.text_forms.specs.States.{is_state}
use Rattle.resume_checks.specs.declared.forms.Books.{Books}
use Rattle.resume_checks.specs.declared.forms.FrozenLists.{FrozenLists}

-- a ledger with these lists
abbrev pub with_books : Books → Ledger → Ledger
with_books b l = record l {
  outputs = b.outputs.now;
  used = b.used.now;
  accounts = b.accounts.now;
  pools = b.pools.now;
  dreps = b.dreps.now;
  hot = b.hot.now;
  proposals = b.proposals.now;
}

-- a snapshot with these lists
abbrev pub with_lists : FrozenLists → Snapshot → Snapshot
with_lists b f = record f {
  entries = b.entries.now;
  dreps = b.dreps.now;
  mark = b.mark.now;
  pool_accounts = b.pool_accounts.now;
  hot = b.hot.now;
  proposals = b.proposals.now;
}

-- each item of the lists of a ledger has the form of the formats
abbrev pub have_items_form : Ledger → Bool
have_items_form l =
    list_all books.is_output l.outputs && list_all is_tx_id l.used && list_all books.is_account l.accounts
    && list_all books.is_pool l.pools && list_all books.is_drep l.dreps && list_all books.is_hot l.hot && list_all is_proposal l.proposals

-- each item of the lists of a snapshot, and its state, have the form of the formats
abbrev pub have_frozen_form : Snapshot → Bool
have_frozen_form f =
    list_all books.is_entry f.entries && list_all books.is_frozen_drep f.dreps && list_all books.is_stake f.mark
    && list_all books.is_pool_account f.pool_accounts && list_all books.is_hot f.hot && list_all is_proposal f.proposals && is_state f.start

-- each pool is one of mark, once, in order
abbrev pub are_accounts_of : List (PoolId × ℕ) → List (PoolId × Account) → Bool
are_accounts_of mark accounts = is_map pool_cmp accounts && list_all (λ p. has_key pool_cmp mark p.0) accounts

-- the lists of a snapshot are in order, each name once, except for the proposals
abbrev pub are_in_order : FrozenLists → Bool
are_in_order b =
    is_map credential_cmp b.entries.now && is_map credential_cmp b.dreps.now && is_map pool_cmp b.mark.now
    && are_accounts_of b.mark.now b.pool_accounts.now && is_map credential_cmp b.hot.now
