use Rattle.std.proofs.Common.{◌≡◌, [], drop}
use Rattle.genesis_books.proofs.FirstBook.{with_listed_dreps}
use Rattle.genesis_books.proofs.first.first_dreps.Given as goal

-- the DReps so far with what is left are all
abbrev pub invariant-loop-credential : goal.invariant-loop-credential
invariant-loop-credential l = with_listed_dreps (drop l.credential-index l.credential-items) l.dreps ≡ with_listed_dreps l.fn.genesis.dreps (record { dreps = []; dormant = 0 })
