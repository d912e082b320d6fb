use Rattle.std.specs.List.Sorted.{IsStrictlySortedBy}
use Rattle.pass_replay.proofs.starts.bare.Goals as goal

pub returns : goal.returns
unfolding IsStrictlySortedBy
returns c = record { in_order = tt }
