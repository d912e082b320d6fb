use Rattle.run_laws.proofs.Counted.{counted_is_the_pulses}
use Rattle.run_laws.proofs.laws.counted_is_the_pulses.Goals as goal

pub returns : goal.returns
returns c = counted_is_the_pulses
