use Rattle.std.proofs.Common.{◌≡◌, ◌≤◌, ◌+◌, drop}
use Rattle.book_records.specs.Outputs.{lovelace_in}
use Rattle.coin_frac.specs.Totals.{total_of}
use Rattle.gov_ids.specs.declared.Credential.{Credential}
use Rattle.account_rows.specs.Entries.{amount_of, stake_in}
use Rattle.account_rows.proofs.stakes.stakes_of.Given as goal

-- what is added so far, with what is left, is all; together it is at most what outputs hold
abbrev pub invariant-loop-output : goal.invariant-loop-output
invariant-loop-output l = record {
  total : total_of l.stakes + lovelace_in (drop l.output-index l.outputs) ≤ lovelace_in l.outputs;
  each : (c : Credential) → amount_of l.stakes c + stake_in (drop l.output-index l.outputs) c ≡ stake_in l.outputs c;
}
