use Rattle.std.proofs.Common.{◌≡◌, drop}
use Rattle.gov_ids.specs.Orders.{outref_cmp}
use Rattle.maps.specs.Maps.{IsMap}
use Rattle.live_ledger.specs.Books.{KeepsAccounts}
use Rattle.live_ledger.proofs.Puts.{without}
use Rattle.live_ledger.proofs.books.take_outputs.Given as goal

-- the book without what is left is the book without all, with the accounts of the first
abbrev pub invariant-loop-at : goal.invariant-loop-at
invariant-loop-at l = record {
  in_order : IsMap outref_cmp l.stake.outputs.outputs;
  rest : without (drop l.at-index l.taken) l.stake.outputs ≡ without l.taken l.fn.stake.outputs;
  kept : KeepsAccounts l.fn.stake l.stake;
}
