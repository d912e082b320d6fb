use Rattle.stream_laws.proofs.Streams.{bytes_are_certified}
use Rattle.stream_laws.proofs.laws.bytes_are_certified.Goals as goal

pub returns : goal.returns
returns c = bytes_are_certified
