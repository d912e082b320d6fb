use Rattle.record_read.proofs.RecordsGive.{record_of_line-within}
use Rattle.record_read.proofs.laws.lines_read_within_limits.Goals as goal

pub returns : goal.returns
returns c = record_of_line-within
