use Rattle.book_kinds.proofs.VoteLaws.{hot_back, hot_formed, hot_plain}
use Rattle.book_kinds.proofs.votes.HotLinesLineKind.laws.Goals as goal

pub returns-clause-formed : goal.returns-clause-formed
returns-clause-formed c = hot_formed

pub returns-clause-plain : goal.returns-clause-plain
returns-clause-plain c = hot_plain

pub returns-clause-back : goal.returns-clause-back
returns-clause-back c = hot_back
