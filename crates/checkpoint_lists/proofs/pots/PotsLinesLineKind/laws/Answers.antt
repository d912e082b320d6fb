use Rattle.checkpoint_lists.proofs.PotsLaws.{pots_back, pots_formed, pots_plain}
use Rattle.checkpoint_lists.proofs.pots.PotsLinesLineKind.laws.Goals as goal

pub returns-clause-formed : goal.returns-clause-formed
returns-clause-formed c = pots_formed

pub returns-clause-plain : goal.returns-clause-plain
returns-clause-plain c = pots_plain

pub returns-clause-back : goal.returns-clause-back
returns-clause-back c = pots_back
