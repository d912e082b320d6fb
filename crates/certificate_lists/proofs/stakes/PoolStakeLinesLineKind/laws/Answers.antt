use Rattle.certificate_lists.proofs.StakeLaws.{mark_back, mark_formed, mark_plain}
use Rattle.certificate_lists.proofs.stakes.PoolStakeLinesLineKind.laws.Goals as goal

pub returns-clause-formed : goal.returns-clause-formed
returns-clause-formed c = mark_formed

pub returns-clause-plain : goal.returns-clause-plain
returns-clause-plain c = mark_plain

pub returns-clause-back : goal.returns-clause-back
returns-clause-back c = mark_back
