use Rattle.std.proofs.Common.{◌≡◌, drop}
use Rattle.std.specs.List.{list_all}
use Rattle.account_rows.specs.Entries.{amount_of, has_stake}
use Rattle.account_rows.proofs.entries.have_stakes.Given as goal

-- all have these stakes if and only if those that are left do
abbrev pub invariant-loop-credential : goal.invariant-loop-credential
invariant-loop-credential l = list_all (has_stake (amount_of l.stakes)) (drop l.credential-index l.entries) ≡ list_all (has_stake (amount_of l.stakes)) l.entries
