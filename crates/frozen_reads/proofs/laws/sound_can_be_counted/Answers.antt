use Rattle.frozen_reads.proofs.Counting.{counted_by}
use Rattle.frozen_reads.proofs.laws.sound_can_be_counted.Goals as goal

pub returns : goal.returns
returns c = counted_by c.drep_stakes_are_within.ensures c.pool_stakes_are_within.ensures
