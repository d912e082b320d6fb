use Rattle.snapshot_counts.proofs.Counting.{counted_by}
use Rattle.snapshot_counts.proofs.laws.fits_can_be_counted.Goals as goal

pub returns : goal.returns
returns c = counted_by c.drep_stakes_are_within.ensures c.pool_stakes_are_within.ensures
