use Rattle.std.proofs.Common.{List, ap, arith, sum_by, ◌∙◌}
use Rattle.book_records.specs.Outputs.{lovelace_in}
use Rattle.stake_book.specs.Stakes.{Stakes, accounts_of, balances_in}
use Rattle.stake_book.specs.of_utxo_set.Utxos.{Utxos}
use Rattle.genesis_books.proofs.FirstBook.{Account5, first_room, listed_next, listed_rewards, listed_room, listed_room_after, with_listed}
use Rattle.genesis_books.proofs.first.first_accounts.Goals as goal

pub loop-credential-init : goal.loop-credential-init
loop-credential-init c =
    let new = c.new-stake.ensures in
    let items = c.as_slice-credential-items.ensures in
    record {
      none = ap (λ (s : Stakes). s.outputs) new;
      room = omega (arith, first_room c.args.genesis.now c.requires.unbroken, ap (λ (s : Stakes). balances_in (accounts_of s)) new, ap (λ (new : List Account5). sum_by listed_rewards new) items);
      rest = λ i. with_listed (items i) (accounts_of (new i));
    }

pub set_account-requires : goal.set_account-requires
set_account-requires c = record {
  room = listed_room c.as_slice-credential-items.result.now c.loop-credential.credential-index _ (accounts_of c.loop-credential.stake) _ c.loop-credential-test.true
      (ap (λ (u : Utxos). lovelace_in u.outputs) c.loop-credential.invariant.none) c.loop-credential.invariant.room;
}

pub loop-credential-preserved : goal.loop-credential-preserved
loop-credential-preserved c =
    let items = c.as_slice-credential-items.result.now in
    let i = c.loop-credential.credential-index in
    let h = c.loop-credential.invariant in
    let put = c.in_ok-set_account.ensures.registered in
    record {
      none = ap (λ (s : Stakes). s.outputs) c.in_ok-set_account.ensures.ok ∙ h.none;
      room = listed_room_after items i _ (accounts_of c.loop-credential.stake) (accounts_of c.set_account.new.self) c.loop-credential-test.true put h.room;
      rest = listed_next items i _ (accounts_of c.loop-credential.stake) (accounts_of c.set_account.new.self) c.loop-credential-test.true put ∙ h.rest;
    }
