use Rattle.std.proofs.Common.{◌≡◌, drop}
use Rattle.std.specs.List.{list_all}
use Rattle.book_records.specs.declared.Output.{Output}
use Rattle.gov_ids.specs.declared.OutRef.{OutRef}
use Rattle.account_rows.specs.Entries.{has_entry}
use Rattle.account_rows.proofs.entries.have_entries.Given as goal

-- all have entries if and only if those that are left do
abbrev pub invariant-loop-output : goal.invariant-loop-output
invariant-loop-output l = list_all (λ (o : OutRef × Output). has_entry l.entries o.1) (drop l.output-index l.outputs) ≡ list_all (λ (o : OutRef × Output). has_entry l.entries o.1) l.outputs
