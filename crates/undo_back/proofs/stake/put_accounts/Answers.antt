use Rattle.std.proofs.Common.{ap, ◌∙◌}
use Rattle.gov_ids.specs.Orders.{credential_cmp}
use Rattle.book_records.specs.Outputs.{lovelace_in}
use Rattle.stake_book.specs.Stakes.{Stakes, accounts_of}
use Rattle.utxo_set.specs.Utxos.{Utxos}
use Rattle.undo_back.proofs.PutBack.{old_next}
use Rattle.undo_back.proofs.Rooms.{accounts_next, accounts_now}
use Rattle.undo_back.proofs.stake.put_accounts.Goals as goal

pub set_account-requires : goal.set_account-requires
set_account-requires c = record {
  room = accounts_now (lovelace_in c.args.stake.now.outputs.outputs) (lovelace_in c.loop-c.stake.outputs.outputs) c.args.olds.now c.loop-c.c-index _ (accounts_of c.loop-c.stake)
      (ap (λ (u : Utxos). lovelace_in u.outputs) c.loop-c.invariant.outputs) c.loop-c-test.true c.loop-c.invariant.room;
}

pub loop-c-preserved : goal.loop-c-preserved
loop-c-preserved c =
    let e = c.in_ok-set_account.ensures in
    let h = c.loop-c.invariant in
    let olds = c.args.olds.now in
    let i = c.loop-c.c-index in
    let l = c.loop-c-test.true in
    record {
      room = accounts_next (lovelace_in c.args.stake.now.outputs.outputs) olds i _ (accounts_of c.loop-c.stake) (accounts_of c.set_account.new.self) l e.registered h.room;
      accounts = old_next credential_cmp olds i _ (accounts_of c.loop-c.stake) (accounts_of c.set_account.new.self) l e.registered ∙ h.accounts;
      outputs = ap (λ (s : Stakes). s.outputs) e.ok ∙ h.outputs;
      frozen = e.frozen ∙ h.frozen;
    }
