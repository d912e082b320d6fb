use Rattle.std.proofs.Common.{◌≡◌, map}
use Rattle.std.specs.Map.Iter.{deref_pair}
use Rattle.committee_book.proofs.HotBook.listed.Given as goal

abbrev pub invariant-loop-cold : goal.invariant-loop-cold
invariant-loop-cold l = l.listed.items ≡ map deref_pair l.yielded
