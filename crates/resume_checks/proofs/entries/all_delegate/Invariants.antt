use Rattle.std.proofs.Common.{◌≡◌, drop}
use Rattle.std.specs.List.{list_all}
use Rattle.resume_checks.specs.Delegations.{delegates_within}
use Rattle.resume_checks.proofs.entries.all_delegate.Given as goal

-- all delegate if and only if those that are left do
abbrev pub invariant-loop-account : goal.invariant-loop-account
invariant-loop-account l = list_all (delegates_within l.pools l.dreps) (drop l.account-index l.accounts) ≡ list_all (delegates_within l.pools l.dreps) l.accounts
