use Rattle.std.proofs.Common.{◌≡◌, ◌+◌, [], drop, map, sum_by}
use Rattle.book_records.specs.Outputs.{lovelace_in}
use Rattle.gov_ids.specs.Orders.{outref_cmp}
use Rattle.maps.proofs.Fresh.{AreFresh}
use Rattle.stake_book.specs.Stakes.{accounts_of}
use Rattle.genesis_books.proofs.FirstBook.{first_entry, listed_lovelace, with_first}
use Rattle.genesis_books.proofs.first.with_first_outputs.Given as goal

-- the accounts stay, what is left is new, and the outputs with it are all
abbrev pub invariant-loop-at : goal.invariant-loop-at
invariant-loop-at l = record {
  accounts : accounts_of l.stake ≡ accounts_of l.fn.stake;
  fresh : AreFresh outref_cmp (map first_entry (drop l.at-index l.at-items)) l.stake.outputs.outputs;
  sum : lovelace_in l.stake.outputs.outputs + sum_by listed_lovelace (drop l.at-index l.at-items) ≡ sum_by listed_lovelace l.fn.genesis.outputs;
  rest : with_first (drop l.at-index l.at-items) l.stake.outputs ≡ with_first l.fn.genesis.outputs (record { outputs = []; used = [] });
}
