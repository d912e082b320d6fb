use Rattle.std.proofs.Common.{lit<}
use Rattle.book_kinds.proofs.Shares.{halves_of_split}
use Rattle.state_kinds.proofs.heads.cut_at_point.Goals as goal

pub returns : goal.returns
returns c = halves_of_split 46 c.args.text.now c.split_once.result (lit< tt) c.split_once.ensures.cases
