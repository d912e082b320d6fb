use Rattle.std.proofs.Common.{◌≡◌, ◌+◌, ◌≤◌, drop}
use Rattle.cert_deleg.specs.Emptied.{emptied_all}
use Rattle.cert_deleg.proofs.withdrawals.empty_accounts.Given as goal

-- what is emptied so far, and then those that are left, are all
abbrev pub invariant-loop-account : goal.invariant-loop-account
invariant-loop-account l = record {
  left : emptied_all (drop l.account-index l.withdrawals) l.d.ledger ≡ emptied_all l.fn.withdrawals l.fn.d.ledger;
  refunds : l.d.refunds ≡ l.fn.d.refunds;
  deposits : l.d.deposits ≡ l.fn.d.deposits;
  start : l.d.start ≡ l.fn.d.start;
  few : l.d.changes ≤ l.fn.d.changes + l.account-index;
}
