use Rattle.std.proofs.Common.{◌≡◌, [], drop}
use Rattle.genesis_books.proofs.FirstBook.{with_listed_pools}
use Rattle.genesis_books.proofs.first.first_pools.Given as goal

-- the pools so far with what is left are all
abbrev pub invariant-loop-listed : goal.invariant-loop-listed
invariant-loop-listed l = with_listed_pools (drop l.listed-index l.listed-items) l.pools ≡ with_listed_pools l.fn.genesis.pools []
