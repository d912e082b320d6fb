use Rattle.std.proofs.Common.{List, [], ap, arith, ◌+◌, drop, get_or, subst, sym, ◌∙◌}
use Rattle.std.proofs.lemmas.List.{drop_more}
use Rattle.book_records.specs.declared.Registered.{Registered}
use Rattle.book_records.specs.Outputs.{lovelace_in}
use Rattle.gov_ids.specs.declared.Credential.{Credential}
use Rattle.gov_ids.specs.Orders.{credential_cmp}
use Rattle.gov_ids.proofs.Exacts.{credential_exact}
use Rattle.gov_ids.proofs.Totals.{credential_total}
use Rattle.maps.proofs.Fresh.{AreFresh}
use Rattle.maps.specs.Maps.{with_values}
use Rattle.stake_book.specs.Stakes.{Stakes, accounts_of, balances_in}
use Rattle.utxo_set.specs.Utxos.{Utxos}
use Rattle.resumed_books.proofs.Put.{fresh_in_order, listed_done, new_keys, put_next, room_now, sum_next}
use Rattle.resumed_books.proofs.stake.of_accounts.Goals as goal

pub loop-credential-init : goal.loop-credential-init
loop-credential-init c =
    let new = c.new-stake.ensures in
    let items = c.as_slice-credential-items.ensures in
    let in_order = c.requires.in_order in
    record {
      none = ap (λ (s : Stakes). s.outputs) new;
      fresh = subst (λ (s : Stakes). AreFresh credential_cmp c.as_slice-credential-items.result.now (accounts_of s)) (sym new)
          (subst (λ (es : List (Credential × Registered)). AreFresh credential_cmp es []) (sym items) (fresh_in_order credential_total c.args.accounts in_order));
      room = omega (arith, c.requires.room, ap (λ (s : Stakes). balances_in (accounts_of s)) new, ap balances_in items);
      rest = λ i. with_values credential_cmp (items i) (accounts_of (new i));
    }

pub set_account-requires : goal.set_account-requires
set_account-requires c =
    let h = c.loop-credential.invariant in
    record {
      room = room_now credential_cmp (λ (r : Registered). r.rewards) c.as_slice-credential-items.result.now c.loop-credential.credential-index _ (accounts_of c.loop-credential.stake) _ _ c.loop-credential-test.true h.fresh
          (ap (λ (u : Utxos). lovelace_in u.outputs) h.none) h.room;
    }

pub loop-credential-preserved : goal.loop-credential-preserved
loop-credential-preserved c =
    let items = c.as_slice-credential-items.result.now in
    let i = c.loop-credential.credential-index in
    let old = accounts_of c.loop-credential.stake in
    let new = accounts_of c.set_account.new.self in
    let h = c.loop-credential.invariant in
    let put = c.in_ok-set_account.ensures.registered in
    let steps = drop_more items i _ c.loop-credential-test.true in
    record {
      none = ap (λ (s : Stakes). s.outputs) c.in_ok-set_account.ensures.ok ∙ h.none;
      fresh = new_keys credential_cmp (get_or items i _) (drop i items) (drop (i + 1) items) old steps new put h.fresh;
      room = omega (arith, h.room, ap balances_in put, sum_next credential_cmp (get_or items i _) (drop i items) (drop (i + 1) items) old steps (λ (r : Registered). r.rewards) h.fresh);
      rest = put_next credential_cmp (get_or items i _) (drop i items) (drop (i + 1) items) old steps new put ∙ h.rest;
    }

pub returns-clause-accounts : goal.returns-clause-accounts
returns-clause-accounts c =
    listed_done credential_total credential_exact c.as_slice-credential-items.result.now c.args.accounts c.loop-credential.credential-index (accounts_of c.loop-credential.stake) c.loop-credential-test.false c.requires.in_order
    c.loop-credential.invariant.rest
