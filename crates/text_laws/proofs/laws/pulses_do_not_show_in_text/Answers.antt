use Rattle.text_laws.proofs.Alike.{pulses_do_not_show_in_text}
use Rattle.text_laws.proofs.laws.pulses_do_not_show_in_text.Goals as goal

pub returns : goal.returns
returns c = pulses_do_not_show_in_text
