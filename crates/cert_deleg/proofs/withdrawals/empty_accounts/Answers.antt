use Rattle.std.proofs.Common.{◌+◌, ◌≤◌, [], drop, ap, sym, ◌∙◌, arith}
use Rattle.gov_ids.specs.declared.CredKind.TheVariants.{Key}
use Rattle.ledger_model.specs.Ledger.{Ledger}
use Rattle.cert_deleg.specs.Emptied.{emptied_all}
use Rattle.cert_deleg.proofs.Emptying.{all_emptied, next_emptied}
use Rattle.cert_deleg.proofs.withdrawals.empty_accounts.Goals as goal

pub loop-account-preserved : goal.loop-account-preserved
loop-account-preserved c =
    let ws = c.args.withdrawals.now in
    let i = c.loop-account.account-index in
    let before = c.loop-account.invariant in
    let done = c.in_ok-empty_account.ensures in record {
      left =
          ap (λ (l : Ledger). emptied_all (drop (i + 1) ws) l) done.ledger
          ∙ next_emptied ws i (record { network = 0; cred = record { hash = []; kind = Key } }, 0) c.loop-account.d.ledger c.loop-account-test.true
          ∙ before.left;
      refunds = done.moved.0 ∙ before.refunds;
      deposits = done.moved.1 ∙ before.deposits;
      start = done.start ∙ before.start;
      few = let more : c.empty_account.new.d.changes ≤ c.loop-account.d.changes + 1 = done.few in omega arith;
    }

pub returns-clause-ledger : goal.returns-clause-ledger
returns-clause-ledger c = sym (all_emptied c.args.withdrawals.now c.loop-account.account-index c.loop-account.d.ledger c.loop-account-test.false) ∙ c.loop-account.invariant.left
