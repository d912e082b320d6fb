use Rattle.state_kinds.proofs.ProposalLaws.{proposal_back, proposal_formed, proposal_plain}
use Rattle.state_kinds.proofs.proposals.ProposalLinesLineKind.laws.Goals as goal

pub returns-clause-formed : goal.returns-clause-formed
returns-clause-formed c = proposal_formed

pub returns-clause-plain : goal.returns-clause-plain
returns-clause-plain c = proposal_plain

pub returns-clause-back : goal.returns-clause-back
returns-clause-back c = proposal_back
