use Rattle.book_kinds.proofs.VoteLaws.{vote_back, vote_formed, vote_plain}
use Rattle.book_kinds.proofs.votes.VoteLinesLineKind.laws.Goals as goal

pub returns-clause-formed : goal.returns-clause-formed
returns-clause-formed c = vote_formed

pub returns-clause-plain : goal.returns-clause-plain
returns-clause-plain c = vote_plain

pub returns-clause-back : goal.returns-clause-back
returns-clause-back c = vote_back
