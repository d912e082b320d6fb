use Rattle.std.specs.List.Sorted.{IsStrictlySortedBy}
use Rattle.pass_tests.proofs.enactment.bare.Goals as goal

pub returns-clause-in_order : goal.returns-clause-in_order
unfolding IsStrictlySortedBy
returns-clause-in_order c = tt
