use Rattle.std.proofs.Common.{◌≡◌, [], drop}
use Rattle.genesis_books.proofs.MemberWalks.{with_hot}
use Rattle.genesis_books.proofs.committee.first_hot.Given as goal

-- the hot keys so far with those of what is left are the hot keys of all
abbrev pub invariant-loop-cold : goal.invariant-loop-cold
invariant-loop-cold l = with_hot (drop l.cold-index l.members) l.hot ≡ with_hot l.members []
