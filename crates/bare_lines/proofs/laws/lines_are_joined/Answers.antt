use Rattle.bare_lines.proofs.Joined.{bare_joined, frozen_joined}
use Rattle.bare_lines.proofs.laws.lines_are_joined.Goals as goal

pub returns-clause-bare : goal.returns-clause-bare
returns-clause-bare c = bare_joined

pub returns-clause-frozen : goal.returns-clause-frozen
returns-clause-frozen c = frozen_joined
