use Rattle.book_kinds.proofs.FrozenLaws.{proposal_id_back, proposal_id_formed, proposal_id_plain}
use Rattle.book_kinds.proofs.epoch.ProposalIdLinesLineKind.laws.Goals as goal

pub returns-clause-formed : goal.returns-clause-formed
returns-clause-formed c = proposal_id_formed

pub returns-clause-plain : goal.returns-clause-plain
returns-clause-plain c = proposal_id_plain

pub returns-clause-back : goal.returns-clause-back
returns-clause-back c = proposal_id_back
