use Rattle.stream_laws.proofs.Streams.{bytes_count_fits}
use Rattle.stream_laws.proofs.laws.bytes_count_fits.Goals as goal

pub returns : goal.returns
returns c = bytes_count_fits
