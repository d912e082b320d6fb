use Rattle.load_summary.proofs.Counted.{summary_is}
use Rattle.load_summary.proofs.counts.summary_is_counted.Goals as goal

pub returns : goal.returns
returns c = summary_is
