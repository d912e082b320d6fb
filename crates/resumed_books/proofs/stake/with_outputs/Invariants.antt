use Rattle.std.proofs.Common.{◌≡◌, ◌+◌, ◌≤◌, length}
use Rattle.std.specs.Vec.Iter.{into_iter_items, into_iter_len}
use Rattle.book_records.specs.Outputs.{lovelace_in}
use Rattle.coin_frac.specs.declared.TheConstants.{SUPPLY_LIMIT}
use Rattle.gov_ids.specs.Orders.{outref_cmp}
use Rattle.maps.proofs.Fresh.{AreFresh}
use Rattle.maps.specs.Maps.{with_values}
use Rattle.stake_book.specs.Stakes.{accounts_of, balances_in}
use Rattle.resumed_books.proofs.stake.with_outputs.Given as goal

-- the accounts stay; what is left is new, there is room for it, and the outputs with it are all
abbrev pub invariant-loop-at : goal.invariant-loop-at
invariant-loop-at l = record {
  left : into_iter_len l.at-iterator ≡ length (into_iter_items l.at-iterator);
  accounts : accounts_of l.stake ≡ accounts_of l.fn.stake;
  fresh : AreFresh outref_cmp (into_iter_items l.at-iterator) l.stake.outputs.outputs;
  room : lovelace_in l.stake.outputs.outputs + lovelace_in (into_iter_items l.at-iterator) + balances_in (accounts_of l.fn.stake) ≤ SUPPLY_LIMIT;
  rest : record l.stake.outputs { outputs = with_values outref_cmp (into_iter_items l.at-iterator) l.stake.outputs.outputs } ≡ record l.fn.stake.outputs { outputs = with_values outref_cmp l.fn.outputs l.fn.stake.outputs.outputs };
}
