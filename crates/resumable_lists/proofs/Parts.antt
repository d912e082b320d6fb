-- The order of lists of a ledger of the form of the formats.
use Rattle.std.proofs.Common.{◌≡◌, true}
use Rattle.std.specs.List.{list_all}
use Rattle.std.proofs.lemmas.Bool.{and_parts}
use Rattle.gov_ids.specs.Orders.{credential_cmp, pool_cmp, txid_cmp}
use Rattle.ledger_model.specs.Ledger.{Ledger}
use Rattle.text_forms.specs.Actions.{are_proposals}
use Rattle.text_forms.specs.Books as books
use Rattle.text_forms.specs.Ids.{is_map, is_rising, is_tx_id}
use Rattle.checkpoint_model.specs.Resumable.{has_book_form}

-- the order of pools, DReps and used ids
record Ordered (l : Ledger) : Type 0 where
  pub pools : is_map pool_cmp l.pools ≡ true
  pub dreps : is_map credential_cmp l.dreps ≡ true
  pub used : is_rising txid_cmp l.used ≡ true

ordered_of : (l : Ledger) → has_book_form l ≡ true → Ordered l
ordered_of l h =
    let a = and_parts _ (are_proposals l.proposals) h in
    let b = and_parts _ (list_all books.is_hot l.hot) a.0 in
    let c = and_parts _ (is_map credential_cmp l.hot) b.0 in
    let d = and_parts _ (list_all books.is_drep l.dreps) c.0 in
    let e = and_parts _ (is_map credential_cmp l.dreps) d.0 in
    let f = and_parts _ (list_all books.is_pool l.pools) e.0 in
    let g = and_parts _ (is_map pool_cmp l.pools) f.0 in
    let i = and_parts _ (list_all books.is_account l.accounts) g.0 in
    let j = and_parts _ (is_map credential_cmp l.accounts) i.0 in
    let k = and_parts _ (list_all is_tx_id l.used) j.0 in
    record { pools = g.1; dreps = e.1; used = (and_parts _ (is_rising txid_cmp l.used) k.0).1 }

pub pools_in_order : (l : Ledger) → has_book_form l ≡ true → is_map pool_cmp l.pools ≡ true
pools_in_order l h = (ordered_of l h).pools

pub dreps_in_order : (l : Ledger) → has_book_form l ≡ true → is_map credential_cmp l.dreps ≡ true
dreps_in_order l h = (ordered_of l h).dreps

pub used_in_order : (l : Ledger) → has_book_form l ≡ true → is_rising txid_cmp l.used ≡ true
used_in_order l h = (ordered_of l h).used
