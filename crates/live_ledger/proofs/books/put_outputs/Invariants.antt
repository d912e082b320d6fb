use Rattle.std.proofs.Common.{◌≡◌, ◌+◌, drop, sum_by}
use Rattle.book_records.specs.Outputs.{lovelace_in}
use Rattle.gov_ids.specs.Orders.{outref_cmp}
use Rattle.maps.proofs.Fresh.{AreFresh}
use Rattle.live_ledger.specs.Books.{KeepsAccounts}
use Rattle.live_ledger.proofs.Puts.{made_at, made_lovelace, with_made}
use Rattle.live_ledger.proofs.books.put_outputs.Given as goal

-- what is left is new, and the book with it is the book with all, with the accounts of the first
abbrev pub invariant-loop-output : goal.invariant-loop-output
invariant-loop-output l = record {
  place : l.index ≡ l.output-index;
  fresh : AreFresh outref_cmp (made_at l.tx.id l.index (drop l.output-index l.output-items)) l.stake.outputs.outputs;
  sum : lovelace_in l.stake.outputs.outputs + sum_by made_lovelace (drop l.output-index l.output-items) ≡ lovelace_in l.fn.stake.outputs.outputs + sum_by made_lovelace l.fn.tx.outputs;
  rest : with_made l.tx.id l.index (drop l.output-index l.output-items) l.stake.outputs ≡ with_made l.fn.tx.id 0 l.fn.tx.outputs l.fn.stake.outputs;
  kept : KeepsAccounts l.fn.stake l.stake;
}
