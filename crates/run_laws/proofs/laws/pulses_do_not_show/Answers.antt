use Rattle.run_laws.proofs.Pulses.{pulses_do_not_show}
use Rattle.run_laws.proofs.laws.pulses_do_not_show.Goals as goal

pub returns : goal.returns
returns c = pulses_do_not_show
