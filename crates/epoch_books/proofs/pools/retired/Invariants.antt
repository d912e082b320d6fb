use Rattle.std.proofs.Common.{◌≡◌, ◌++◌, drop, map}
use Rattle.stake_book.specs.Stakes.{accounts_of}
use Rattle.epoch_books.specs.Retirements.{retired_by}
use Rattle.epoch_books.proofs.pools.retired.Given as goal

-- the pools so far and those that are left
abbrev pub invariant-loop-r : goal.invariant-loop-r
invariant-loop-r l = l.retired.items ++ map (retired_by (accounts_of l.stake)) (drop l.r-index l.reaped) ≡ map (retired_by (accounts_of l.stake)) l.reaped
