use Rattle.std.proofs.Common.{◌≡◌, ◌++◌, drop}
use Rattle.account_rows.specs.Entries.{accounts_in}
use Rattle.account_rows.proofs.accounts.registered.Given as goal

-- those so far, then those that are left
abbrev pub invariant-loop-entry : goal.invariant-loop-entry
invariant-loop-entry l = l.accounts.items ++ accounts_in (drop l.entry-index l.entries) ≡ accounts_in l.entries
