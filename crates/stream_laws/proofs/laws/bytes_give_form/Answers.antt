use Rattle.stream_laws.proofs.Streams.{bytes_give_form}
use Rattle.stream_laws.proofs.laws.bytes_give_form.Goals as goal

pub returns : goal.returns
returns c = bytes_give_form
