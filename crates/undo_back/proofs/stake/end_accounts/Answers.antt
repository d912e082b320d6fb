use Rattle.std.proofs.Common.{◌≤◌, length, ap, sym, ◌∙◌, arith}
use Rattle.gov_ids.specs.Orders.{credential_cmp}
use Rattle.stake_book.specs.Stakes.{Stakes, accounts_of}
use Rattle.undo_back.proofs.PutBack.{gone_done, gone_next}
use Rattle.undo_back.proofs.Rooms.{ended_fits}
use Rattle.undo_back.proofs.stake.end_accounts.Goals as goal

pub set_account-requires : goal.set_account-requires
set_account-requires c = record { room = ended_fits c.loop-c.stake _ c.balances-balances.ensures.kept.room }

pub loop-c-preserved : goal.loop-c-preserved
loop-c-preserved c =
    let e = c.in_ok-set_account.ensures in
    let h = c.loop-c.invariant in
    record {
      accounts = gone_next credential_cmp c.args.olds.now c.loop-c.c-index _ (accounts_of c.loop-c.stake) (accounts_of c.set_account.new.self) c.loop-c-test.true e.registered ∙ h.accounts;
      outputs = ap (λ (s : Stakes). s.outputs) e.ok ∙ h.outputs;
      frozen = e.frozen ∙ h.frozen;
    }

pub returns-clause-accounts : goal.returns-clause-accounts
returns-clause-accounts c =
    let all : length c.args.olds.now ≤ c.loop-c.c-index = omega arith in
    sym (gone_done credential_cmp c.args.olds.now c.loop-c.c-index (accounts_of c.loop-c.stake) all) ∙ c.loop-c.invariant.accounts
