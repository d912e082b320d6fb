use Rattle.std.proofs.Common.{is_none, ap}
use Rattle.tx_rule.proofs.accepted.Goals as goal

pub commit-requires-clause-allowed : goal.commit-requires-clause-allowed
commit-requires-clause-allowed c = ap is_none c.requires.judged.0

pub commit-requires-clause-drafted : goal.commit-requires-clause-drafted
commit-requires-clause-drafted c = c.requires.judged.1
